use native.Mathlib.Omega.{arith}
use Prim.Native.Nat.{ℕ, ◌-◌}
use mathlib.Core.Logic.{◌≢◌}
use mathlib.Core.Path.{refl, ap, ◌∙◌}
use Rattle.std.specs.Prelude.{Some}
use Rattle.layouts.proofs.Sizes.{some_record}
use Rattle.presence.proofs.Rest.{record_inside}
use Rattle.verify.proofs.OneWalk.{head_some, not_started, using_start, using_far, using_high, using_left, using_low, using_room, using_enough}
use Rattle.verify.proofs.OneWalk.{using_no, using_good, using_next, using_end, using_found}
use Rattle.verify.proofs.UsedRuns.{run_unstarted, run_started, run_end, run_far, run_no, run_on}
use Rattle.verify.proofs.keys.walk_used.Goals as goal

pub returns-then-not-starts_right : goal.returns-then-not-starts_right
returns-then-not-starts_right c =
    let no = c.if-not-starts_right.true in
    record {
      answer = not_started c.args.b.now c.requires.0 _ c.starts_right.ensures no;
      lent = tt;
      run = run_unstarted c.args.b.now _ _ _ c.starts_right.ensures no _ refl;
    }

pub overflow_sub-left : goal.overflow_sub-left
overflow_sub-left c = omega (arith, c.capacity-c.ensures, some_record c.args.b.now c.requires.0.least c.requires.0.most)

pub next_of-at-requires : goal.next_of-at-requires
next_of-at-requires c =
    let head = c.head_word-last.ensures in
    record_inside _ _ c.requires.0 (omega (arith, head, c.requires.0.used_head))
    (head_some c.args.b.now _ c.starts_right.ensures c.if-not-starts_right.false _ head)

pub loop-at-init : goal.loop-at-init
loop-at-init c = search (using_start, run_started)

pub returns-then-not-may_meet : goal.returns-then-not-may_meet
returns-then-not-may_meet c =
    let I = c.loop-at.invariant in
    let some = c.loop-at-test.true in
    let met = c.may_meet.ensures in
    let no = c.if-not-may_meet.true in
    record {
      answer = using_far _ c.requires.0 _ _ _ _ _ _ _ I.1 some _ I.0 _ met no;
      lent = tt;
      run = run_far _ _ _ _ _ _ _ _ some _ I.0 _ met no _ refl ∙ I.2;
    }

pub key_of-k-requires : goal.key_of-k-requires
key_of-k-requires c =
    let I = c.loop-at.invariant in
    let some = c.loop-at-test.true in
    record_inside _ _ c.requires.0 (using_high _ c.requires.0 _ _ _ _ _ _ _ I.1 some _ I.0 _ c.may_meet.ensures c.if-not-may_meet.false) some

pub next_of-after-requires : goal.next_of-after-requires
next_of-after-requires c =
    let I = c.loop-at.invariant in
    let some = c.loop-at-test.true in
    record_inside _ _ c.requires.0 (using_high _ c.requires.0 _ _ _ _ _ _ _ I.1 some _ I.0 _ c.may_meet.ensures c.if-not-may_meet.false) some

pub key_of-key-requires : goal.key_of-key-requires
key_of-key-requires c = search record_inside

pub returns-then-not-key_follows : goal.returns-then-not-key_follows
returns-then-not-key_follows c =
    let I = c.loop-at.invariant in
    let some = c.loop-at-test.true in
    let met = c.may_meet.ensures in
    let yes = c.if-not-may_meet.false in
    let k = c.key_of-k.ensures in
    let key = c.key_of-key.ensures in
    let told = c.key_follows.ensures in
    let no = c.if-not-key_follows.true in
    record {
      answer = using_no _ c.requires.0 _ _ _ _ _ _ _ I.1 some _ I.0 _ met yes _ k _ key _ told no;
      lent = tt;
      run = run_no _ _ _ _ _ _ _ _ some _ I.0 _ met yes _ k _ key _ told no _ refl ∙ I.2;
    }

pub take-sure-requires : goal.take-sure-requires
take-sure-requires c =
    let I = c.loop-at.invariant in
    let some = c.loop-at-test.true in
    let met = c.may_meet.ensures in
    let yes = c.if-not-may_meet.false in (
      c.requires.0,
      I.1.fit,
      using_room _ c.requires.0 _ _ _ _ _ _ _ I.1 some _ I.0 _ met yes,
      using_good _ c.requires.0 _ _ _ _ _ _ _ I.1 some _ I.0 _ met yes _ c.key_of-k.ensures _ c.key_of-key.ensures _ c.key_follows.ensures
          c.if-not-key_follows.false,
      using_low _ c.requires.0 _ _ _ _ _ _ _ I.1 some _ I.0 _ met yes,
    )

pub step-free-requires : goal.step-free-requires
step-free-requires c =
    let I = c.loop-at.invariant in
    (c.requires.0, using_enough _ c.requires.0 _ _ _ _ _ _ _ I.1 c.loop-at-test.true _ I.0 _ c.may_meet.ensures c.if-not-may_meet.false)

pub overflow_sub-left-in-loop-at : goal.overflow_sub-left-in-loop-at
overflow_sub-left-in-loop-at c =
    let I = c.loop-at.invariant in
    let more : c.loop-at.left ≢ 0
    = using_left _ c.requires.0 _ _ _ _ _ _ _ I.1 c.loop-at-test.true _ I.0 _ c.may_meet.ensures c.if-not-may_meet.false in
    omega arith

pub loop-at-smaller : goal.loop-at-smaller
loop-at-smaller c =
    let I = c.loop-at.invariant in
    let more : c.loop-at.left ≢ 0
    = using_left _ c.requires.0 _ _ _ _ _ _ _ I.1 c.loop-at-test.true _ I.0 _ c.may_meet.ensures c.if-not-may_meet.false in
    omega arith

pub loop-at-preserved : goal.loop-at-preserved
loop-at-preserved c =
    let I = c.loop-at.invariant in
    let some = c.loop-at-test.true in
    let met = c.may_meet.ensures in
    let yes = c.if-not-may_meet.false in
    let k = c.key_of-k.ensures in
    let key = c.key_of-key.ensures in
    let told = c.key_follows.ensures in
    let follows = c.if-not-key_follows.false in
    let taken = c.take-sure.ensures in
    let more = using_left _ c.requires.0 _ _ _ _ _ _ _ I.1 some _ I.0 _ met yes in (
      I.0,
      using_next _ c.requires.0 _ _ _ _ _ _ _ I.1 some _ I.0 _ met yes _ k _ key _ told follows _ taken.answer _ taken.marked _ taken.kept _
          c.next_of-after.ensures _ c.step-free.ensures,
      run_on _ _ _ _ _ _ _ _ some _ I.0 _ met yes _ k _ key _ told follows more _ taken.answer _ taken.marked _ taken.kept _
          c.next_of-after.ensures _ c.step-free.ensures
          ∙ I.2,
    )

pub returns : goal.returns
returns c =
    let I = c.loop-at.invariant in
    let none = c.loop-at-test.false in
    record {
      answer =
          ap (λ (n : ℕ). Some (record { count = n - c.loop-at.left; last = c.loop-at.last })) I.0 ∙ using_end _ c.requires.0 _ _ _ _ _ _ _ I.1 none;
      lent = using_found _ c.requires.0 _ _ _ _ _ _ _ I.1 none;
      run = run_end _ _ _ _ _ _ _ _ none _ I.0 _ refl ∙ I.2;
    }
