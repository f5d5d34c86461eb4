-- A setting: a minus or none, and digits.
use Prim.Native.Nat.{ℕ, zero, suc, ◌+◌, ◌-◌, ◌<◌}
use native.Mathlib.Omega.{arith}
use native.Mathlib.Numerals.{add-one}
use mathlib.Core.Path.{◌≡◌, refl, sym, ap, ◌∙◌, subst}
use mathlib.Core.Bool.{Bool, true, false, cond}
use mathlib.Core.List.{List, ◌∷◌}
use lib.IntN.{ℤ, pos, negsuc, neg_ℤ, ◌-ℤ◌}
use lib.Signed.{mag}
use lib.ListN.{length, drop, get_or, drop_of_length-le}
use lib.Seq.{drop-cons}
use mir.Syntax.{w32}
use mir.Val.{SFits, to_z, of_z}
use mir.Facts.{to_z-of_z, to_z_pos}
use lib.Dec.{leb}
use borrow.Author.Tests.{leb-true, leb-false, eq-eqb, ne_eqb, lt-ltb}
use Rattle.form.specs.Form.{is_digit}
use Rattle.form.specs.Parse.{Got, got, bad, then, run_of, read_run, read_sign}
use Rattle.form.specs.Output.{number_of, setting_of}
use Rattle.fields_in.specs.Fields.{read_number, read_setting}
use Rattle.fields_in.proofs.Walk.{ByteIs}

abbrev negated : ℕ → ℤ
negated n = neg_ℤ (pos n)

pub is_signed : (v : ℕ) → v < 10000 → to_z w32 v ≡ pos v
is_signed v h = to_z_pos w32 {n = v} (omega arith)

minus : (v : ℕ) → pos 0 -ℤ pos v ≡ negated v
minus zero = refl
minus (suc n) = ap (λ (t : Bool). cond t (negsuc (suc n - suc 0)) (pos (0 - suc n))) (lt-ltb 0 (suc n) (omega arith)) ∙ ap negsuc {x = suc n - suc 0} {y = n} (omega arith)

pub minus_is : (v : ℕ) → v < 10000 → pos 0 -ℤ to_z w32 v ≡ negated v
minus_is v h = ap (λ (z : ℤ). pos 0 -ℤ z) (is_signed v h) ∙ minus v

negated_small : (v : ℕ) → v < 10000 → mag (negated v) < 2147483648
negated_small zero h = omega arith
negated_small (suc n) h = omega arith

pub minus_fits : (v : ℕ) → v < 10000 → SFits w32 (pos 0 -ℤ to_z w32 v)
minus_fits v h = record { sfits = subst (λ (z : ℤ). mag z < 2147483648) (sym (minus_is v h)) (negated_small v h) }

mapped : {A B : Type 0} → (A → B) → Got A → Got B
mapped f (got a s) = got (f a) s
mapped f bad = bad

-- a signed value is the number's, mapped
through : (m : Bool) (g : Got (List ℕ)) → then g (λ d s. got (setting_of m d) s) ≡ mapped (λ n. cond m (negated n) (pos n)) (then g (λ d s. got (number_of 0 d) s))
unfolding setting_of mapped
through m (got d s) = refl
through m bad = refl

module _ (s : List ℕ) (at : ℕ) where
  minus_opened : ByteIs s at 45 true → read_setting (drop at s) ≡ mapped negated (read_number (drop (at + 1) s))
  unfolding read_setting read_sign read_number
  minus_opened h =
      ap read_setting (drop-cons s at 0 h.0)
      ∙ ap (λ (b : Bool). then (cond b (got true (drop (suc at) s)) (got false (get_or s at 0 ∷ drop (suc at) s))) (λ m s. then (read_run is_digit 4 s) (λ d s. got (setting_of m d) s))) (eq-eqb (get_or s at 0) 45 h.1)
      ∙ through true (read_run is_digit 4 (drop (suc at) s))
      ∙ ap (λ (p : ℕ). mapped negated (then (read_run is_digit 4 (drop p s)) (λ d s. got (number_of 0 d) s))) (sym (add-one at))

  plain_opened : ByteIs s at 45 false → read_setting (drop at s) ≡ mapped pos (read_number (drop at s))
  unfolding read_setting read_sign read_number read_run run_of mapped
  plain_opened h = go (leb (length s) at) refl
    where
      go : (t : Bool) → leb (length s) at ≡ t → read_setting (drop at s) ≡ mapped pos (read_number (drop at s))
      go true e = let ended = drop_of_length-le s {i = at} (leb-true (length s) at e) in ap read_setting ended ∙ sym (ap (λ (l : List ℕ). mapped pos (read_number l)) ended)
      go false e =
          let k : at < length s = leb-false (length s) at e in
          ap read_setting (drop-cons s at 0 k)
          ∙ ap (λ (b : Bool). then (cond b (got true (drop (suc at) s)) (got false (get_or s at 0 ∷ drop (suc at) s))) (λ m s. then (read_run is_digit 4 s) (λ d s. got (setting_of m d) s))) (ne_eqb (get_or s at 0) 45 (h k))
          ∙ through false (read_run is_digit 4 (get_or s at 0 ∷ drop (suc at) s))
          ∙ ap (λ (l : List ℕ). mapped pos (then (read_run is_digit 4 l) (λ d s. got (number_of 0 d) s))) (sym (drop-cons s at 0 k))

  pub setting_minus : ByteIs s at 45 true → (v : ℕ) (r : List ℕ) → v < 10000 → read_number (drop (at + 1) s) ≡ got v r → read_setting (drop at s) ≡ got (to_z w32 (of_z w32 (pos 0 -ℤ to_z w32 v))) r
  unfolding mapped
  setting_minus h v r k f = minus_opened h ∙ ap (mapped negated) f ∙ sym (ap (λ (z : ℤ). got z r) (to_z-of_z (minus_fits v k) ∙ minus_is v k))

  pub setting_minus_none : ByteIs s at 45 true → read_number (drop (at + 1) s) ≡ bad → read_setting (drop at s) ≡ bad
  unfolding mapped
  setting_minus_none h f = minus_opened h ∙ ap (mapped negated) f

  pub setting_plain : ByteIs s at 45 false → (v : ℕ) (r : List ℕ) → v < 10000 → read_number (drop at s) ≡ got v r → read_setting (drop at s) ≡ got (to_z w32 v) r
  unfolding mapped
  setting_plain h v r k f = plain_opened h ∙ ap (mapped pos) f ∙ sym (ap (λ (z : ℤ). got z r) (is_signed v k))

  pub setting_plain_none : ByteIs s at 45 false → read_number (drop at s) ≡ bad → read_setting (drop at s) ≡ bad
  unfolding mapped
  setting_plain_none h f = plain_opened h ∙ ap (mapped pos) f
