use Rattle.std.specs.Prelude.{Bool, true, false, cond, Option, Some, None, ◌≡◌, ℕ, ◌≤◌, eqb, ltb, length}
use Rattle.std.proofs.Common.{refl, sym, ◌∙◌, ap, arith}
use Rattle.std.specs.Option.{unwrap_or}
use borrow.Author.Tests.{ltb-false}
use Rattle.std.proofs.Common.{rules, tests}
use Rattle.std.proofs.lemmas.Iterator.{YieldsList-from_slice}
use Rattle.std.proofs.lemmas.Iterator.Search.{position_from_yields_List}
use Rattle.text.proofs.Reading.{before_length, length_before}
use Rattle.lines.proofs.words.end_of.Goals as goal

-- the place, or the length where there is none
place_or_length : (p n : ℕ) → p ≤ n → unwrap_or (cond (ltb p n) (Some p) None) n ≡ p
place_or_length p n h = go (ltb p n) refl
  where
    go : (b : Bool) → ltb p n ≡ b → unwrap_or (cond b (Some p) None) n ≡ p
    go true e = refl
    go false e = omega (arith, ltb-false p n e)

pub returns : goal.returns
returns c =
    let found = position_from_yields_List (λ (b : ℕ). eqb b c.args.end) _ _ c.position.result c.position.ensures.ran (YieldsList-from_slice c.args.text.now (cc)) (λ x b q k. search (rules, tests)) in
    c.unwrap_or.ensures
    ∙ ap (λ (o : Option ℕ). unwrap_or o (length c.args.text.now)) found
    ∙ place_or_length _ _ (omega (arith, length_before c.args.end c.args.text.now, before_length c.args.end c.args.text.now))
    ∙ sym (length_before c.args.end c.args.text.now)
