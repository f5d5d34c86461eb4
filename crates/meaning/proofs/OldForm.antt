-- "The old form is w = 16": with that width in every layer the calls give what document 01 has.
use mathlib.Core.Path.{◌≡◌, refl, sym, ap, ◌∙◌}
use mathlib.Core.Bool.{Bool, true, false, cond, ◌&&◌}
use mathlib.Core.List.{List, [], ◌∷◌, ◌++◌, map, flat_map, zip_with, flatten}
use Prim.Native.Nat.{ℕ, zero, suc, ◌+◌, ◌*◌, ◌/◌, ◌^◌, ◌≤◌, ◌<◌, zero-le, suc-le-suc}
use native.Mathlib.Nat.{le_trans, le_antisymm, mul-le-mul_left}
use native.Mathlib.Omega.{arith}
use borrow.Author.Tests.{eq-eqb, le-leb}
use lib.Dec.{leb, eqb, lit≤}
use lib.IntN.{ℤ}
use lib.ListN.{length, get_or, take, drop, replicate, length-replicate, length-take, length-drop}
use lib.Pow.{pow_mono}
use lib.Seq.{get_or-take, get_or-drop}
use Rattle.meaning.specs.Readings.{finite}
use Rattle.meaning.specs.Layers.{Layer, missing_code, last_code, holds, least_from, runs, layers, smallest, summary, span, layer_of, code, packed_layers, packed_codes, unpacked_code, unpacked_codes}
use Rattle.meaning.specs.Questions.{accepted, ask, all, length_in_range, whole, is_nan, width_in_range, packable, exponent_in_range, code_in_range, layer_questions, pack_questions, unpack_questions}
use Rattle.meaning.specs.Calls.{leaving, stored_exponent, stored_layer, stored_layers, pack, unpack}
use Rattle.meaning.specs.OldForm.{old_exponent, old_layer, old_code, old_codes, old_layers, old_double, old_doubles, sixteens, OldForm}
use Rattle.meaning.proofs.OldRange.{enough}
use Rattle.meaning.proofs.Packing.{Packable, holds_order, order_holds, least_holds, least_least, span_under}
use Rattle.meaning.proofs.Packed.{all_asked}

-- ---- one layer

-- the old search is the search of width 16
old_search : (n more e : ℕ) → old_exponent n more e ≡ least_from 16 n more e
unfolding old_exponent least_from holds last_code
old_search n zero e = refl
old_search n (suc more) e = ap (λ (x : ℕ). cond (leb n (65534 * 2 ^ e)) e x) (old_search n more (suc e))

-- and what lies above it changes nothing
same_least : (n : ℕ) → holds 16 n 263 ≡ true → least_from 16 n 277 0 ≡ least_from 16 n 263 0
same_least n h =
    le_antisymm (least_least 16 n 277 0 (least_from 16 n 263 0) zero-le (least_holds 16 n 263 0 h))
    (least_least 16 n 263 0 (least_from 16 n 277 0) zero-le (least_holds 16 n 277 0 (order_holds 16 n 277 higher)))
  where
    higher : n ≤ last_code 16 * 2 ^ 277
    higher = le_trans (holds_order 16 n 263 h) (mul-le-mul_left (last_code 16) (pow_mono {i = 263} {j = 277} (lit≤ tt)))

module _ (mark : ℕ) where
  layer_is : (part : List ℕ) → Packable 23 8 mark part → layer_of 23 8 277 mark 16 part ≡ old_layer mark part
  unfolding layer_of old_layer
  layer_is part p =
      let s = summary 23 8 mark part in
      let n = span 23 8 (summary 23 8 mark part) in
      ap (λ (e : ℕ). record { width = 16; reference = smallest s; exponent = e })
      (same_least n (order_holds 16 n 263 (le_trans (span_under 23 8 mark part p) enough)) ∙ sym (old_search n 263 0))

  codes_are : (part : List ℕ) → Packable 23 8 mark part → map (code 23 8 mark (layer_of 23 8 277 mark 16 part)) part ≡ map (old_code mark (old_layer mark part)) part
  unfolding code old_code old_layer missing_code
  codes_are part p = ap (λ (l : Layer). map (code 23 8 mark l) part) (layer_is part p)

  -- ---- all layers

  first_packable : (L : ℕ) (ws : List ℕ) → Packable 23 8 mark ws → Packable 23 8 mark (take L ws)
  first_packable L ws p i h q =
      let l : i < L = omega (arith, rw length-take at h) in
      let e = get_or-take L ws i 0 l in
      rw e (p i (omega (arith, rw length-take at h)) (λ z. q (e ∙ z)))

  rest_packable : (L : ℕ) (ws : List ℕ) → Packable 23 8 mark ws → Packable 23 8 mark (drop L ws)
  rest_packable L ws p i h q =
      let e = get_or-drop L ws i 0 in
      rw e (p (L + i) (omega (arith, rw length-drop at h)) (λ z. q (e ∙ z)))

  each_layer : {B : Type 0} (f : ℕ → List ℕ → B) (g : List ℕ → B) → ((part : List ℕ) → Packable 23 8 mark part → f 16 part ≡ g part)
      → (L n : ℕ) (ws : List ℕ) → Packable 23 8 mark ws → zip_with f (replicate n 16) (runs L n ws) ≡ map g (runs L n ws)
  unfolding runs zip_with
  each_layer f g same L zero ws p = refl
  each_layer f g same L (suc n) ws p =
      ap (λ x. x ∷ zip_with f (replicate n 16) (runs L n (drop L ws))) (same (take L ws) (first_packable L ws p))
      ∙ ap (λ xs. g (take L ws) ∷ xs) (each_layer f g same L n (drop L ws) (rest_packable L ws p))

flat_map_lem : {A B : Type 0} (f : A → List B) (l : List A) → flatten (map f l) ≡ flat_map f l
unfolding flatten flat_map
flat_map_lem f [] = refl
flat_map_lem f (x ∷ l) = ap (λ t. f x ++ t) (flat_map_lem f l)

-- ---- the questions

all_sixteen : (n : ℕ) → all width_in_range (replicate n 16) ≡ true
unfolding all
all_sixteen zero = refl
all_sixteen (suc n) = all_sixteen n

fits : (c r e : Bool) → c && true && (r && (e && true)) ≡ (c && r && e)
fits true true true = refl
fits true true false = refl
fits true false e = refl
fits false r e = refl

pack_asked : (mark L : ℕ) (ws : List ℕ) (codes references exponents : ℕ)
    → pack_questions mark L (sixteens (length ws) L) ws codes references exponents
    ≡ ask (length_in_range L) 3
    (ask (whole (length ws) L) 4
    (ask (eqb codes (length ws) && eqb references (length ws / L) && eqb exponents (length ws / L)) 5
    (ask (all (packable mark) ws) 6
    (accepted tt))))
unfolding pack_questions layer_questions all ask
pack_asked mark L ws c r e =
    let n = length ws / L in
    rw (length-replicate {A = ℕ} n 16, eq-eqb n n refl, all_sixteen n, fits (eqb c (length ws)) (eqb r n) (eqb e n)) refl

-- ---- unpacking

-- every code of 16 bits is one of a layer of 16 bits
codes_known_lem : (cs : List ℕ) → ((i : ℕ) → i < length cs → get_or cs i 0 < 65536) → all (code_in_range 16) cs ≡ true
unfolding all missing_code
codes_known_lem [] h = refl
codes_known_lem (c ∷ cs) h = rw (le-leb c 65535 (omega (arith, h 0 (suc-le-suc zero-le)))) (codes_known_lem cs (λ i k. h (suc i) (suc-le-suc k)))

layers_known : (L n : ℕ) (cs : List ℕ) → ((i : ℕ) → i < length cs → get_or cs i 0 < 65536)
    → all (λ good. good) (zip_with (λ w part. all (code_in_range w) part) (replicate n 16) (runs L n cs)) ≡ true
unfolding all runs zip_with
layers_known L zero cs h = refl
layers_known L (suc n) cs h = rw (codes_known_lem (take L cs) first) (layers_known L n (drop L cs) rest)
  where
    first : (i : ℕ) → i < length (take L cs) → get_or (take L cs) i 0 < 65536
    first i k =
        let l : i < L = omega (arith, rw length-take at k) in
        rw (get_or-take L cs i 0 l) (h i (omega (arith, rw length-take at k)))

    rest : (i : ℕ) → i < length (drop L cs) → get_or (drop L cs) i 0 < 65536
    rest i k = rw (get_or-drop L cs i 0) (h (L + i) (omega (arith, rw length-drop at k)))

unpack_asked : (mark L : ℕ) (cs rs : List ℕ) (es : List ℤ) (readings : ℕ) → ((i : ℕ) → i < length cs → get_or cs i 0 < 65536)
    → unpack_questions mark L (sixteens (length cs) L) cs rs es readings
    ≡ ask (length_in_range L) 3
    (ask (whole (length cs) L) 4
    (ask (eqb readings (length cs) && eqb (length rs) (length cs / L) && eqb (length es) (length cs / L)) 5
    (ask (all (finite 23 8) rs && all exponent_in_range es) 7
    (ask (is_nan 52 11 mark) 8
    (accepted tt)))))
unfolding unpack_questions layer_questions all ask layers
unpack_asked mark L cs rs es readings h =
    let n = length cs / L in
    rw (length-replicate {A = ℕ} n 16, eq-eqb n n refl, all_sixteen n, fits (eqb readings (length cs)) (eqb (length rs) n) (eqb (length es) n), layers_known L n cs h) refl

old_doubles_lem : (mark n : ℕ) (rs : List ℕ) (es : List ℤ) (parts : List (List ℕ))
    → zip_with (λ l part. map (unpacked_code mark l) part) (stored_layers (replicate n 16) rs es) parts
    ≡ zip_with (λ l part. map (old_double mark l) part) (stored_layers (replicate n 16) rs es) parts
unfolding stored_layers zip_with stored_layer unpacked_code old_double missing_code
old_doubles_lem mark zero rs es parts = refl
old_doubles_lem mark (suc n) [] es parts = refl
old_doubles_lem mark (suc n) (r ∷ rs) [] parts = refl
old_doubles_lem mark (suc n) (r ∷ rs) (e ∷ es) [] = refl
old_doubles_lem mark (suc n) (r ∷ rs) (e ∷ es) (part ∷ parts) = ap (λ t. map (old_double mark (stored_layer 16 r e)) part ∷ t) (old_doubles_lem mark n rs es parts)

-- ---- the whole

pub old_form : OldForm
unfolding pack unpack leaving packed_codes packed_layers unpacked_codes layers old_codes old_layers old_doubles
old_form =
    record {
      pack_asks = pack_asked;
      unpack_asks = unpack_asked;
      packing = λ mark L ws codes references exponents yes-answer.
          let n = length ws / L in
          let p = (all_asked mark L (sixteens (length ws) L) ws codes references exponents yes-answer).packable in
          let ls = each_layer mark (layer_of 23 8 277 mark) (old_layer mark) (layer_is mark) L n ws p in
          rw yes-answer (
            ap flatten (each_layer mark (λ w part. map (code 23 8 mark (layer_of 23 8 277 mark w part)) part) (λ part. map (old_code mark (old_layer mark part)) part) (codes_are mark) L n ws p)
                ∙ flat_map_lem (λ part. map (old_code mark (old_layer mark part)) part) (runs L n ws),
            ap (map (λ (l : Layer). l.reference)) ls,
            ap (map stored_exponent) ls,
          );
      unpacking = λ mark L cs rs es readings yes-answer. rw yes-answer (ap flatten (old_doubles_lem mark (length cs / L) rs es (runs L (length cs / L) cs)));
    }
