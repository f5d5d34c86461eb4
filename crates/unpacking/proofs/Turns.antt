-- The loop over layers, over plain lists: what is written of the readings, and then what the layers that are left unpack to, is the whole.
use mathlib.Core.Path.{◌≡◌, refl, sym, ap, ◌∙◌, subst}
use mathlib.Core.Bool.{true}
use mathlib.Core.List.{List, [], ◌∷◌, ◌++◌, map, zip_with, flatten}
use Prim.Native.Nat.{ℕ, zero, suc, ◌+◌, ◌-◌, ◌*◌, ◌^◌, ◌≤◌, ◌<◌}
use native.Mathlib.Nat.{div-add-mod', sub-zero, zero-add}
use native.Mathlib.Omega.{arith}
use borrow.Author.Tests.{leb-true}
use lib.Dec.{T, leb}
use lib.IntN.{ℤ, pos}
use lib.ListN.{length, get_or, take, drop, length-map, length-take, length-drop}
use lib.Ieee.{Float, nan, binary32, binary64, of_int, to_bits, fits}
use Rattle.meaning.specs.Layers.{Layer, missing_code, runs, layers, unpacked_code, unpacked_codes}
use Rattle.meaning.specs.Questions.{width_in_range, exponent_in_range}
use Rattle.meaning.specs.Calls.{stored_layer, stored_layers}
use Rattle.meaning.proofs.Accepted.{and_second}
use Rattle.meaning.proofs.Elements.{all_at, layers_long, layers_at}
use Rattle.meaning.proofs.Layering.{map_at, run_left, Written, written_turn, written_end}
use Rattle.parts.proofs.Back.{back, length_back, take_back}
use Rattle.decoding.specs.declared.LayerFloats.{LayerFloats}
use Rattle.decoding.specs.Floats.{finite_float, two_to, decoded}
use Rattle.decoding.proofs.Codes.{code_decoded}
use Rattle.unpacking.specs.Known.{Known}

-- ---- elements of lists

-- every element is a single
abbrev pub Singles : List Float → Type 0
Singles rs = (i : ℕ) → T (fits binary32 (get_or rs i nan))

-- every element is below B, and 0 is where there is none
abbrev pub Below : ℕ → List ℕ → Type 0
Below B xs = (i : ℕ) → get_or xs i 0 < B

below_take : (B : ℕ) → 0 < B → (n : ℕ) (xs : List ℕ) → Below B xs → Below B (take n xs)
below_take B p zero xs h i = p
below_take B p (suc n) [] h i = p
below_take B p (suc n) (x ∷ xs) h zero = h 0
below_take B p (suc n) (x ∷ xs) h (suc i) = below_take B p n xs (λ j. h (suc j)) i

below_drop : (B : ℕ) (n : ℕ) (xs : List ℕ) → Below B xs → Below B (drop n xs)
below_drop B zero xs h i = h i
below_drop B (suc n) [] h i = h i
below_drop B (suc n) (x ∷ xs) h i = below_drop B n xs (λ j. h (suc j)) i

map_below : (B : ℕ) (f g : ℕ → ℕ) → ((x : ℕ) → x < B → f x ≡ g x) → (xs : List ℕ) → Below B xs → map f xs ≡ map g xs
map_below B f g e [] h = refl
map_below B f g e (x ∷ xs) h = ap (λ y. y ∷ map f xs) (e x (h 0)) ∙ ap (λ ys. g x ∷ ys) (map_below B f g e xs (λ j. h (suc j)))

-- ---- the layers as they are stored

-- what becomes of a layer's codes
abbrev unpacked_part : ℕ → Layer → List ℕ → List ℕ
unpacked_part mark l part = map (unpacked_code mark l) part

abbrev none : Layer
none = record { width = 0; reference = 0; exponent = 0 }

module _ (ws cs : List ℕ) (rs : List Float) (es : List ℤ) (L mark readings : ℕ) where
  abbrev stored : List Layer
  stored = stored_layers ws (map (to_bits binary32) rs) es

  module _ (k : Known ws cs rs es L readings) where
    one_reference : length ws ≡ length (map (to_bits binary32) rs)
    one_reference = rw length-map (omega (arith, k.one_reference, k.one_width))

    one_exponent : length ws ≡ length es
    one_exponent = omega (arith, k.one_exponent, k.one_width)

    stored_long : length stored ≡ length rs
    stored_long = layers_long ws (map (to_bits binary32) rs) es one_reference one_exponent ∙ omega (arith, k.one_reference, k.one_width)

  pub record Turn (ys : List ℕ) (a i : ℕ) : Type 0 where
    pub known : Known ws cs rs es L readings
    pub as_long : length ys ≡ readings
    pub within : i ≤ length rs
    pub room : a + (length rs - i) * L ≡ length cs
    pub written : Written L none (unpacked_part mark) (length rs) stored cs ys a a i (length rs - i)

  pub start : (ys : List ℕ) → length ys ≡ readings → Known ws cs rs es L readings → Turn ys 0 0
  start ys e k =
      record {
        known = k;
        as_long = e;
        within = omega arith;
        room =
            zero-add _ ∙ ap (λ (n : ℕ). n * L) (sub-zero (length rs) ∙ k.one_reference)
            ∙ omega (arith, div-add-mod' (length cs) L, k.whole);
        written = ap (λ (n : ℕ). flatten (zip_with (unpacked_part mark) stored (runs L n cs))) (sub-zero (length rs));
      }

  module _ (ys : List ℕ) (a i : ℕ) (inv : Turn ys a i) where
    pub as_many : length ys ≡ length cs
    as_many = inv.as_long ∙ inv.known.as_many

    -- one more layer is there
    pub fits_in : i < length rs → a + L ≤ length cs
    fits_in h = (run_left L a i (length rs) (length cs) h inv.room).1

    pub exponent_there : i < length rs → i < length es
    exponent_there h = omega (arith, inv.known.one_reference, inv.known.one_exponent)

    pub width_there : i < length rs → i < length ws
    width_there h = omega (arith, inv.known.one_reference, inv.known.one_width)

    pub reference_finite : i < length rs → finite_float (get_or rs i nan) ≡ true
    reference_finite h = all_at finite_float nan rs inv.known.references_known i h

    pub exponent_step : i < length rs → exponent_in_range (get_or es i (pos 0)) ≡ true
    exponent_step h = all_at exponent_in_range (pos 0) es inv.known.exponents_known i (exponent_there h)

    pub width_few : i < length rs → get_or ws i 0 ≤ 16
    width_few h =
        let w = get_or ws i 0 in
        leb-true w 16 (and_second (leb 2 w) (leb w 16) (all_at width_in_range 0 ws inv.known.widths_known i (width_there h)))

    -- the layer's codes as the code has them
    module _ (h : i < length rs) (small : Below (2 ^ 16) cs) (l : LayerFloats) (fit : T (fits binary32 l.reference)) (re : l.reference ≡ get_or rs i nan)
        (se : l.step ≡ two_to (get_or es i (pos 0))) (me : l.missing ≡ of_int binary64 (pos (missing_code (get_or ws i 0)))) where
      abbrev layer : Layer
      layer = stored_layer (get_or ws i 0) (to_bits binary32 (get_or rs i nan)) (get_or es i (pos 0))

      stored_at : get_or stored i none ≡ layer
      stored_at =
          layers_at ws (map (to_bits binary32) rs) es (one_reference inv.known) (one_exponent inv.known) none i (width_there h)
          ∙ ap (λ (r : ℕ). stored_layer (get_or ws i 0) r (get_or es i (pos 0))) (map_at (to_bits binary32) nan 0 rs i h)

      layer_is : (k : ℕ) → map (decoded l mark) (take k (drop a cs)) ≡ unpacked_part mark layer (take k (drop a cs))
      layer_is k =
          map_below (2 ^ 16) (decoded l mark) (unpacked_code mark layer)
          (λ x b.
          subst (λ (r : Float). decoded l mark x ≡ unpacked_code mark (stored_layer (get_or ws i 0) (to_bits binary32 r) (get_or es i (pos 0))) x) re
          (code_decoded l (get_or es i (pos 0)) fit (rw re (reference_finite h)) (exponent_step h) se x b (get_or ws i 0) mark (width_few h) me))
          (take k (drop a cs)) (below_take (2 ^ 16) (omega arith) k (drop a cs) (below_drop (2 ^ 16) a cs small))

      pub turn : (zs : List ℕ) → zs ≡ map (decoded l mark) (take (a + L - a) (drop a cs)) → Turn (back ys a (a + L - a) zs) (a + L) (i + 1)
      turn zs e =
          let k : a + L - a ≡ L = omega arith in
          let o = fits_in h in
          let m : length rs - i ≡ suc (length rs - (i + 1)) = omega arith in
          let zl : length zs ≡ a + L - a = ap length e ∙ simp (length-map, length-take, length-drop) (omega arith) in
          let fits : a + (a + L - a) ≤ length ys = omega (arith, as_many) in
          let is : zs ≡ unpacked_part mark (get_or stored i none) (take L (drop a cs)) =
          e ∙ layer_is (a + L - a) ∙ ap (λ (j : ℕ). unpacked_part mark layer (take j (drop a cs))) k ∙ ap (λ (x : Layer). unpacked_part mark x (take L (drop a cs))) (sym stored_at) in
          record {
            known = inv.known;
            as_long = length_back ys a (a + L - a) zs zl fits ∙ inv.as_long;
            within = omega arith;
            room = (run_left L a i (length rs) (length cs) h inv.room).0;
            written =
                written_turn L none (unpacked_part mark) (length rs) stored cs ys (back ys a (a + L - a) zs) a a L i (length rs - (i + 1)) (omega (arith, stored_long inv.known))
                (subst (λ (j : ℕ). take (a + j) (back ys a (a + L - a) zs) ≡ take a ys ++ unpacked_part mark (get_or stored i none) (take L (drop a cs))) k
                (take_back ys a (a + L - a) zs zl fits ∙ ap (λ (u : List ℕ). take a ys ++ u) is))
                (subst (λ (j : ℕ). Written L none (unpacked_part mark) (length rs) stored cs ys a a i j) m inv.written);
          }

    pub finish : length rs ≤ i → ys ≡ unpacked_codes mark L stored cs
    unfolding unpacked_codes layers
    finish h =
        let z : length rs - i ≡ 0 = omega arith in
        let q : a + 0 * L ≡ length cs = rw z at inv.room in
        written_end L none (unpacked_part mark) (length rs) stored cs ys a a i (omega (arith, as_many)) (omega (arith, stored_long inv.known))
        (subst (λ (j : ℕ). Written L none (unpacked_part mark) (length rs) stored cs ys a a i j) z inv.written)
        ∙ ap (λ (n : ℕ). flatten (zip_with (unpacked_part mark) stored (runs L n cs))) inv.known.one_reference
