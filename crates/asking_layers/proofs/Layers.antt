-- Questions 3, 4, 5 and 11 by the code's number; and what is known of the lengths and widths where that number is 0.
use Prim.Native.Nat.{ℕ, ◌/◌, ◌%◌, ◌≤◌}
use native.Mathlib.Omega.{arith}
use mathlib.Core.Path.{◌≡◌, refl}
use mathlib.Core.Logic.{◌≢◌}
use mathlib.Core.Bool.{Bool, true, false, cond, ◌&&◌}
use mathlib.Core.List.{List, [], ◌∷◌}
use lib.Dec.{leb, eqb}
use lib.ListN.{length}
use borrow.Author.Tests.{leb-true, eqb-true}
use Rattle.meaning.specs.Questions.{Outcome, refused, ask, all, length_in_range, whole, width_in_range, layer_questions}
use Rattle.meaning.proofs.Accepted.{and_first, and_second}
use Rattle.refusal.specs.declared.Refusal.{Refusal}
use Rattle.refusal.specs.declared.Refusal.TheVariants as variants
use Rattle.refusal.specs.Refusals.{number_of}
use Rattle.asking_layers.specs.LayerAsked.{layer_refusal}

-- no refusal has the number 0
pub number_not_0 : (r : Refusal) → number_of r ≢ 0
number_not_0 variants.MethodUnknown e = absurd (omega arith)
number_not_0 variants.SettingOutOfRange e = absurd (omega arith)
number_not_0 variants.LengthOutOfRange e = absurd (omega arith)
number_not_0 variants.NoWholeLayers e = absurd (omega arith)
number_not_0 variants.ArrayOfWrongLength e = absurd (omega arith)
number_not_0 variants.ReadingNotFinite e = absurd (omega arith)
number_not_0 variants.ReferenceOrExponentOutOfRange e = absurd (omega arith)
number_not_0 variants.MarkNotNan e = absurd (omega arith)
number_not_0 variants.TextNotOfTheForm e = absurd (omega arith)
number_not_0 variants.LengthsDiffer e = absurd (omega arith)
number_not_0 variants.WidthOutOfRange e = absurd (omega arith)
number_not_0 variants.CodeOutOfRange e = absurd (omega arith)
number_not_0 variants.PlanesOfWrongLength e = absurd (omega arith)

-- the lengths and widths of an accepted call
pub record Lengths (L n : ℕ) (beside : Bool) (references exponents : ℕ) (widths : List ℕ) : Type 0 where
  pub some : 1 ≤ L
  pub few : L ≤ 65536
  pub whole : n % L ≡ 0
  pub as_many : beside ≡ true
  pub one_width : length widths ≡ n / L
  pub one_reference : references ≡ n / L
  pub one_exponent : exponents ≡ n / L
  pub widths_known : all width_in_range widths ≡ true

-- four questions in turn, by their answers
abbrev first : Bool → Bool → Bool → Bool → ℕ
first a b c d = cond a (cond b (cond c (cond d 0 11) 5) 4) 3

answers : (a b c d : Bool) → first a b c d ≡ 0 → (a ≡ true) × (b ≡ true) × (c ≡ true) × (d ≡ true)
answers true true true true e = (refl, refl, refl, refl)
answers true true true false e = absurd (omega arith)
answers true true false d e = absurd (omega arith)
answers true false c d e = absurd (omega arith)
answers false b c d e = absurd (omega arith)

in_turn : (a b c d : Bool) (rest : Outcome (Unit {0}))
    → ask a 3 (ask b 4 (ask c 5 (ask d 11 rest))) ≡ cond (eqb (first a b c d) 0) rest (refused (first a b c d))
unfolding ask
in_turn true true true true rest = refl
in_turn true true true false rest = refl
in_turn true true false d rest = refl
in_turn true false c d rest = refl
in_turn false b c d rest = refl

module _ (L n : ℕ) (beside : Bool) (references exponents : ℕ) (widths : List ℕ) where
  abbrev per_layer : List ℕ
  per_layer = references ∷ exponents ∷ []

  abbrev fit : Bool
  fit = beside && eqb (length widths) (n / L) && all (λ k. eqb k (n / L)) (references ∷ exponents ∷ [])

  abbrev number : ℕ
  number = layer_refusal L n beside (references ∷ exponents ∷ []) widths

  pub layers_asked : (rest : Outcome (Unit {0})) → layer_questions L n beside (references ∷ exponents ∷ []) widths rest ≡ cond (eqb number 0) rest (refused number)
  unfolding layer_questions layer_refusal
  layers_asked rest = in_turn (length_in_range L) (whole n L) fit (all width_in_range widths) rest

  pub lengths : layer_refusal L n beside (references ∷ exponents ∷ []) widths ≡ 0 → Lengths L n beside references exponents widths
  unfolding layer_refusal all
  lengths e =
      let t = answers (length_in_range L) (whole n L) fit (all width_in_range widths) e in
      let each = and_second (beside && eqb (length widths) (n / L)) (all (λ k. eqb k (n / L)) per_layer) t.2 in
      let one = and_first (beside && eqb (length widths) (n / L)) (all (λ k. eqb k (n / L)) per_layer) t.2 in
      record {
        some = leb-true 1 L (and_first (leb 1 L) (leb L 65536) t.0);
        few = leb-true L 65536 (and_second (leb 1 L) (leb L 65536) t.0);
        whole = eqb-true (n % L) 0 t.1;
        as_many = and_first beside (eqb (length widths) (n / L)) one;
        one_width = eqb-true (length widths) (n / L) (and_second beside (eqb (length widths) (n / L)) one);
        one_reference = eqb-true references (n / L) (and_first (eqb references (n / L)) (eqb exponents (n / L) && true) each);
        one_exponent = eqb-true exponents (n / L) (and_first (eqb exponents (n / L)) true (and_second (eqb references (n / L)) (eqb exponents (n / L) && true) each));
        widths_known = t.3;
      }
