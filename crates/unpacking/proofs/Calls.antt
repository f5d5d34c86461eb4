-- The whole call against the definitions: the code's number of the questions, and what an accepted call and a refused one answer and leave.
use mathlib.Core.Path.{◌≡◌, refl, sym, ap, ◌∙◌}
use mathlib.Core.Logic.{◌≢◌}
use mathlib.Core.Bool.{Bool, true, false, cond, ◌&&◌}
use mathlib.Core.List.{List, [], ◌∷◌, map, zip_with}
use Prim.Native.Nat.{ℕ, suc}
use native.Mathlib.Omega.{arith}
use borrow.Author.Tests.{eq-eqb, ne_eqb, eqb-true, leb-true}
use lib.Dec.{leb, eqb}
use lib.IntN.{ℤ}
use lib.ListN.{length, get_or, length-map}
use lib.Ieee.{Float, binary32, to_bits}
use Rattle.meaning.specs.Readings.{finite}
use Rattle.meaning.specs.Layers.{layers, unpacked_codes}
use Rattle.meaning.specs.Questions.{Outcome, refused, accepted, ask, all, is_nan, width_in_range, exponent_in_range, code_in_range, unpack_questions}
use Rattle.meaning.specs.Calls.{AfterUnpack, leaving, stored_layers, unpack}
use Rattle.meaning.proofs.Accepted.{and_first, and_second}
use Rattle.meaning.proofs.Elements.{all_at}
use Rattle.asking_layers.specs.LayerAsked.{layer_refusal}
use Rattle.asking_layers.proofs.Layers.{Lengths, layers_asked, lengths}
use Rattle.asking_values.specs.Asked.{refusal_of}
use Rattle.asking_codes.specs.Codes.{InLayers}
use Rattle.decoding.specs.Floats.{finite_float}
use Rattle.decoding.proofs.References.{pattern_finite}
use Rattle.unpacking.specs.Known.{Known}
use Rattle.unpacking.proofs.Turns.{Singles}

all_patterns : (rs : List Float) → Singles rs → all (finite 23 8) (map (to_bits binary32) rs) ≡ all finite_float rs
unfolding all
all_patterns [] h = refl
all_patterns (r ∷ rs) h = rw (sym (pattern_finite binary32 r (h 0)), all_patterns rs (λ i. h (suc i))) refl

abbrev done : Outcome (Unit {0})
done = accepted tt

-- the questions on values, before those that are left
values_asked : (k m : Bool) (rest : Outcome (Unit {0})) → ask k 7 (ask m 8 rest) ≡ cond (eqb (refusal_of k m) 0) rest (refused (refusal_of k m))
unfolding ask refusal_of
values_asked true true rest = refl
values_asked true false rest = refl
values_asked false m rest = refl

none_refused : (k m : Bool) → refusal_of k m ≡ 0 → k ≡ true
unfolding refusal_of
none_refused true m h = refl
none_refused false m h = absurd (omega arith)

-- the number of the questions on layers, that of those on values, and the code's answer to that on codes
module _ (mark L : ℕ) (ws cs : List ℕ) (rs : List Float) (es : List ℤ) (ys : List ℕ) (single : Singles rs) where
  abbrev by_layers : ℕ
  by_layers = layer_refusal L (length cs) (eqb (length ys) (length cs)) (length rs ∷ length es ∷ []) ws

  abbrev by_values : ℕ
  by_values = refusal_of (all finite_float rs && all exponent_in_range es) (is_nan 52 11 mark)

  abbrev codes_known : Bool
  codes_known = all (λ good. good) (zip_with (λ w part. all (code_in_range w) part) ws (layers L cs))

  asked_is : unpack_questions mark L ws cs (map (to_bits binary32) rs) es (length ys)
      ≡ cond (eqb by_layers 0) (cond (eqb by_values 0) (ask codes_known 12 done) (refused by_values)) (refused by_layers)
  unfolding unpack_questions
  asked_is =
      rw (length-map, all_patterns rs single)
      (layers_asked L (length cs) (eqb (length ys) (length cs)) (length rs) (length es) ws _
      ∙ ap (λ (rest : Outcome (Unit {0})). cond (eqb by_layers 0) rest (refused by_layers))
      (values_asked (all finite_float rs && all exponent_in_range es) (is_nan 52 11 mark) (ask codes_known 12 done)))

  abbrev left : AfterUnpack
  left = unpack mark L ws cs (map (to_bits binary32) rs) es ys

  pub refused_layers : by_layers ≢ 0 → (refused by_layers ≡ left.answer) × (ys ≡ left.readings)
  unfolding unpack leaving
  refused_layers h = rw (asked_is, ne_eqb by_layers 0 h) (refl, refl)

  pub refused_values : by_layers ≡ 0 → by_values ≢ 0 → (refused by_values ≡ left.answer) × (ys ≡ left.readings)
  unfolding unpack leaving
  refused_values l h = rw (asked_is, eq-eqb by_layers 0 l, ne_eqb by_values 0 h) (refl, refl)

  module _ (l : by_layers ≡ 0) (v : by_values ≡ 0) where
    pub refused_codes : codes_known ≡ false → (refused 12 ≡ left.answer) × (ys ≡ left.readings)
    unfolding unpack leaving ask
    refused_codes c = rw (asked_is, eq-eqb by_layers 0 l, eq-eqb by_values 0 v, c) (refl, refl)

    asked_lengths : Lengths L (length cs) (eqb (length ys) (length cs)) (length rs) (length es) ws
    asked_lengths = lengths L (length cs) (eqb (length ys) (length cs)) (length rs) (length es) ws l

    pub known : Known ws cs rs es L (length ys)
    known =
        let q = asked_lengths in
        let k = none_refused (all finite_float rs && all exponent_in_range es) (is_nan 52 11 mark) v in
        record {
          whole = q.whole;
          as_many = eqb-true (length ys) (length cs) q.as_many;
          one_width = q.one_width;
          one_reference = q.one_reference;
          one_exponent = q.one_exponent;
          widths_known = q.widths_known;
          references_known = and_first (all finite_float rs) (all exponent_in_range es) k;
          exponents_known = and_second (all finite_float rs) (all exponent_in_range es) k;
        }

    pub in_layers : InLayers L ws cs
    in_layers =
        let q = asked_lengths in
        record {
          some = q.some;
          whole = q.whole;
          one_width = q.one_width;
          few_bits = λ i k. let w = get_or ws i 0 in leb-true w 16 (and_second (leb 2 w) (leb w 16) (all_at width_in_range 0 ws q.widths_known i k));
        }

    pub accepted_call : codes_known ≡ true → (done ≡ left.answer) × (unpacked_codes mark L (stored_layers ws (map (to_bits binary32) rs) es) cs ≡ left.readings)
    unfolding unpack leaving ask
    accepted_call c = rw (asked_is, eq-eqb by_layers 0 l, eq-eqb by_values 0 v, c) (refl, refl)
