-- Laws of texts put into lent bytes, one behind the other.
use mathlib.Core.List.{[], ◌∷◌, ◌++◌, append_assoc}
use mathlib.Core.Path.{◌≡◌, refl, sym, ap, ap₂, ◌∙◌, subst}
use Prim.Native.Nat.{ℕ, ◌+◌, ◌-◌, ◌%◌, ◌^◌, ◌≤◌, ◌<◌}
use native.Mathlib.Nat.{add-zero, add_assoc}
use native.Mathlib.Omega.{arith}
use lib.ListN.{length, take, drop, length-append, length-drop, take-append-drop}
use lib.Seq.{take_at, drop_at, drop-drop}
use Rattle.text.specs.Bytes.{Text, written}
use Rattle.text.proofs.Written.{written_nil, written_twice, length_written}
use Rattle.text.specs.Numerals.{digit, printed_number}
use Rattle.text.proofs.Printing.{of_printed}
use borrow.Rule.Slice.PartMut.{put_mid}
use Rattle.std.specs.Fmt.{decimal}
use Rattle.std.proofs.lemmas.Fmt.{decimal_digit, decimal_step}
use Rattle.print.specs.declared.line.Line.{Line}
use Rattle.print.specs.Answers.{Fits, Put, AtFront, Room, Adds}

-- as many bytes as before
pub put_length : {bs out : Text} {at end : ℕ} {out' : Text} → Put bs out at end out' → Fits bs out at → length out' ≡ length out
put_length {bs} {out} {at} p h = ap length p.bytes ∙ length_written out at bs h

-- a text, and one behind it
pub put_then : {xs ys out : Text} {at mid end : ℕ} {out' out'' : Text} → at ≤ length out → Put xs out at mid out' → Put ys out' mid end out'' → Put (xs ++ ys) out at end out''
put_then {xs} {ys} {out} {at} {mid} {end} {out'} {out''} h p q =
    record {
      place = q.place ∙ ap (λ (n : ℕ). n + length ys) p.place ∙ add_assoc at (length xs) (length ys) ∙ ap (λ (n : ℕ). at + n) (sym (length-append xs ys));
      bytes = q.bytes ∙ ap (λ (o : Text). written o mid ys) p.bytes ∙ ap (λ (n : ℕ). written (written out at xs) n ys) p.place ∙ written_twice out at xs ys h;
    }

-- a text put behind what a line has, and one behind it
pub adds_then : {xs ys : Text} {l l' l'' : Line} → Room xs l → Adds xs l l' → Adds ys l' l'' → Adds (xs ++ ys) l l''
adds_then h p q = record { lent = q.lent ∙ p.lent; put = put_then (omega arith) p.put q.put }

pub adds_none : (l : Line) → Adds [] l l
adds_none l = record { lent = refl; put = record { place = sym (add-zero l.at); bytes = sym (written_nil l.out.now l.at) } }

pub adds_same : {xs ys : Text} {l l' : Line} → xs ≡ ys → Adds xs l l' → Adds ys l l'
adds_same {xs} {ys} {l} {l'} e p = subst (λ (bs : Text). Adds bs l l') e p

-- room behind a text that is put
pub room_after : (n : ℕ) {bs : Text} {l l' : Line} → Adds bs l l' → l.at + (length bs + n) ≤ length l.out.now → l'.at + n ≤ length l'.out.now
room_after n {bs} {l} {l'} p h = omega (arith, put_length p.put (omega arith), p.put.place)

-- ---- a text at the front of lent bytes

pub front_none : (out : Text) → AtFront [] out 0 out
front_none out = record { size = refl; bytes = refl }

module _ {bs out : Text} {n : ℕ} {out' : Text} (p : AtFront bs out n out') where
  -- it is what the first bytes hold ..
  pub front_text : take n out' ≡ bs
  front_text = ap (take n) p.bytes ∙ take_at bs (drop (length bs) out) n (sym p.size)

  -- .. and the bytes behind it are as they were
  pub behind_front : drop n out' ≡ drop (length bs) out
  behind_front = ap (drop n) p.bytes ∙ drop_at bs (drop (length bs) out) n (sym p.size)

  -- as many bytes as before
  pub front_length : n ≤ length out → length out' ≡ length out
  front_length h = omega (arith, p.size, ap length p.bytes, length-append bs (drop (length bs) out), length-drop (length bs) out)

  -- a text at the front, and one at the front of what is behind it
  pub front_then : {cs : Text} {m : ℕ} {rest : Text} → AtFront cs (drop n out') m rest → AtFront (bs ++ cs) out (n + m) (take n out' ++ rest)
  front_then {cs} {m} {rest} q =
      record {
        size = omega (arith, p.size, q.size, length-append bs cs);
        bytes =
            ap₂ (λ (xs ys : Text). xs ++ ys) front_text (q.bytes ∙ ap (λ (xs : Text). cs ++ drop (length cs) xs) behind_front ∙ ap (λ (xs : Text). cs ++ xs) (drop-drop (length cs) (length bs) out))
            ∙ sym (append_assoc bs cs (drop (length bs + length cs) out))
            ∙ ap (λ (k : ℕ). (bs ++ cs) ++ drop k out) (sym (length-append bs cs));
      }

-- ---- numbers

-- what `{}` writes for a number of 32 bits
pub decimal_printed : (x : ℕ) → x ≤ 4294967295 → decimal x ≡ printed_number x
decimal_printed x h = of_printed (λ (n : ℕ) (ds : Text). n < 2 ^ 64 → decimal n ≡ ds) (λ n l k. decimal_digit n l)
    (λ n ds l ih k. decimal_step n l k ∙ ap (λ (bs : Text). bs ++ (digit (n % 10) ∷ [])) (ih (omega arith))) x h (omega arith)

-- a number whose digits end at a place
pub number_put : (x count : ℕ) (out : Text) (at from : ℕ) (out' : Text) → x ≤ 4294967295 → count ≡ length (printed_number x) → at + count ≤ length out → from + length (decimal x) ≡ at + count
    → drop from out' ≡ decimal x ++ drop (at + count) out → take from out' ≡ take from out → Put (printed_number x) out at (at + count) out'
unfolding written
number_put x count out at from out' small counted room start behind before =
    let same = decimal_printed x small in
    let here : from ≡ at = omega (arith, ap length same) in
    record {
      place = ap (λ (n : ℕ). at + n) counted;
      bytes =
          sym (take-append-drop from out')
          ∙ ap₂ (λ (xs ys : Text). xs ++ ys) before behind
          ∙ ap₂ (λ (n : ℕ) (ds : Text). take n out ++ (ds ++ drop (at + count) out)) here same
          ∙ ap (λ (n : ℕ). take at out ++ (printed_number x ++ drop (at + n) out)) counted;
    }

-- a text copied to its place
pub text_put : (out text : Text) (at : ℕ) (copy : Text) → Fits text out at → copy ≡ text → Put text out at (at + length text) (put_mid at (at + length text - at) out copy)
unfolding written
text_put out text at copy h e =
    let size : at + length text - at ≡ length text = omega arith in
    record {
      place = refl;
      bytes =
          ap₂ (λ (n : ℕ) (bs : Text). take at out ++ (bs ++ drop n (drop at out))) size e
          ∙ ap (λ (bs : Text). take at out ++ (text ++ bs)) (drop-drop (length text) at out);
    }
