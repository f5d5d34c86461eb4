-- The loop over layers, on plain lists: its invariant, where it begins, after a turn and at the end.
use mathlib.Core.Path.{◌≡◌, refl, ap, ◌∙◌, subst}
use mathlib.Core.List.{List, [], ◌∷◌, ◌++◌, map, zip_with, flatten}
use Prim.Native.Nat.{ℕ, zero, suc, ◌+◌, ◌-◌, ◌*◌, ◌/◌, ◌≤◌, ◌<◌}
use native.Mathlib.Nat.{zero-add, sub-zero, div-add-mod', not-suc-le-zero, le_of_suc-le-suc}
use native.Mathlib.Numerals.{add-one}
use native.Mathlib.Omega.{arith}
use lib.IntN.{ℤ}
use lib.Ieee.{Float, binary32, to_bits}
use lib.ListN.{length, get_or, take, drop, set, length-set, length-map, length-take, length-drop}
use lib.Seq.{take-suc-set, get_or-take, get_or-drop}
use Rattle.meaning.specs.Layers.{Layer, runs, layers, layer_of, code, packed_layers, packed_codes}
use Rattle.meaning.specs.Calls.{stored_exponent}
use Rattle.meaning.proofs.Layering.{run_left, Written, written_turn, written_end}
use Rattle.parts.proofs.Back.{back, length_back, take_back}
use Rattle.summary.specs.Summaries.{Packable}
use Rattle.layering.specs.declared.LayerRecord.{LayerRecord}
use Rattle.layering.specs.Layering.{PackedAs}
use Rattle.all_layers.specs.Arrays.{Fit, packed_references, packed_exponents}

-- one thing for each layer: made in the loop as a list of one, and by the definitions of the layers
flat_zip : {B : Type 0} (f : Layer → B) (g : ℕ → List ℕ → Layer) (bs : List ℕ) (l : List (List ℕ)) → flatten (zip_with (λ b x. f (g b x) ∷ []) bs l) ≡ map f (zip_with g bs l)
unfolding flatten zip_with
flat_zip f g [] l = refl
flat_zip f g (b ∷ bs) [] = refl
flat_zip f g (b ∷ bs) (x ∷ l) = ap (λ t. f (g b x) ∷ t) (flat_zip f g bs l)

-- an element set in a list, and the list then mapped
take_set_map : {A B : Type 0} (f : A → B) (l : List A) (i : ℕ) (v : A) → i < length l → take (i + 1) (map f (set l i v)) ≡ take i (map f l) ++ (f v ∷ [])
take_set_map f l i v h = rw add-one (go l i h)
  where
    go : (l : List _) (i : ℕ) → i < length l → take (suc i) (map f (set l i v)) ≡ take i (map f l) ++ (f v ∷ [])
    go [] i h = absurd (not-suc-le-zero h)
    go (x ∷ l) zero h = refl
    go (x ∷ l) (suc i) h = ap (λ t. f x ∷ t) (go l i (le_of_suc-le-suc h))

-- ---- the three arrays

module _ (mark : ℕ) where
  abbrev codes_of : ℕ → List ℕ → List ℕ
  codes_of w part = map (code 23 8 mark (layer_of 23 8 277 mark w part)) part

  abbrev reference_of : ℕ → List ℕ → List ℕ
  reference_of w part = (layer_of 23 8 277 mark w part).reference ∷ []

  abbrev exponent_of : ℕ → List ℕ → List ℤ
  exponent_of w part = stored_exponent (layer_of 23 8 277 mark w part) ∷ []

-- the arrays keep their lengths; n - i runs are left, from a on
pub record Turn (xs : List ℕ) (mark L : ℕ) (bs cs₀ : List ℕ) (rs₀ : List Float) (es₀ : List ℤ) (cs : List ℕ) (rs : List Float) (es : List ℤ) (a i : ℕ) : Type 0 where
  pub fit : Fit L bs xs cs₀ rs₀ es₀
  pub codes_long : length cs ≡ length cs₀
  pub references_long : length rs ≡ length rs₀
  pub exponents_long : length es ≡ length es₀
  pub within : i ≤ length rs₀
  pub left : a + (length rs₀ - i) * L ≡ length xs
  pub codes : Written L 0 (codes_of mark) (length xs / L) bs xs cs a a i (length rs₀ - i)
  pub references : Written L 0 (reference_of mark) (length xs / L) bs xs (map (to_bits binary32) rs) a i i (length rs₀ - i)
  pub exponents : Written L 0 (exponent_of mark) (length xs / L) bs xs es a i i (length rs₀ - i)

pub start : (xs : List ℕ) (mark L : ℕ) (bs cs : List ℕ) (rs : List Float) (es : List ℤ) → Fit L bs xs cs rs es → Turn xs mark L bs cs rs es cs rs es 0 0
start xs mark L bs cs rs es fit =
    let n : length rs - 0 ≡ length xs / L = sub-zero (length rs) ∙ fit.one_reference in
    record {
      fit = fit;
      codes_long = refl;
      references_long = refl;
      exponents_long = refl;
      within = omega arith;
      left = zero-add _ ∙ ap (λ (k : ℕ). k * L) n ∙ omega (arith, div-add-mod' (length xs) L, fit.whole);
      codes = ap (λ (k : ℕ). flatten (zip_with (codes_of mark) bs (runs L k xs))) n;
      references = ap (λ (k : ℕ). flatten (zip_with (reference_of mark) bs (runs L k xs))) n;
      exponents = ap (λ (k : ℕ). flatten (zip_with (exponent_of mark) bs (runs L k xs))) n;
    }

-- a part of packable readings is packable
pub part_packable : (mark : ℕ) (xs : List ℕ) (a k : ℕ) → a + k ≤ length xs → Packable mark xs → Packable mark (take k (drop a xs))
part_packable mark xs a k h p i l q =
    let j : i < k = omega (arith, rw (length-take, length-drop) at l) in
    let e = get_or-take k (drop a xs) i 0 j ∙ get_or-drop a xs i 0 in
    rw e (p (a + i) (omega arith) (λ z. q (e ∙ z)))

module _ (xs : List ℕ) (mark L : ℕ) (bs cs₀ : List ℕ) (rs₀ : List Float) (es₀ : List ℤ) (cs : List ℕ) (rs : List Float) (es : List ℤ) (a i : ℕ) (inv : Turn xs mark L bs cs₀ rs₀ es₀ cs rs es a i) where
  -- one more run fits
  pub room : i < length rs₀ → a + L ≤ length xs
  room h = (run_left L a i (length rs₀) (length xs) h inv.left).1

  pub turn : i < length rs₀ → (ys : List ℕ) (v : LayerRecord) (z : ℤ) → z ≡ v.exponent → ys ≡ codes_of mark (get_or bs i 0) (take (a + L - a) (drop a xs))
      → PackedAs v (layer_of 23 8 277 mark (get_or bs i 0) (take (a + L - a) (drop a xs)))
      → Turn xs mark L bs cs₀ rs₀ es₀ (back cs a (a + L - a) ys) (set rs i v.reference) (set es i z) (a + L) (i + 1)
  turn h ys v z ze ce ve =
      let k : a + L - a ≡ L = omega arith in
      let r = run_left L a i (length rs₀) (length xs) h inv.left in
      let part = take L (drop a xs) in
      let ce' : ys ≡ codes_of mark (get_or bs i 0) part = ce ∙ ap (λ (j : ℕ). codes_of mark (get_or bs i 0) (take j (drop a xs))) k in
      let ve' : PackedAs v (layer_of 23 8 277 mark (get_or bs i 0) part) = subst (λ (j : ℕ). PackedAs v (layer_of 23 8 277 mark (get_or bs i 0) (take j (drop a xs)))) k ve in
      let yl : length ys ≡ a + L - a = ap length ce' ∙ simp (length-map, length-take, length-drop) (omega arith) in
      let fits : a + (a + L - a) ≤ length cs = omega (arith, inv.fit.as_many, inv.codes_long) in
      let m : length rs₀ - i ≡ suc (length rs₀ - (i + 1)) = omega arith in
      let q : i < length bs = omega (arith, inv.fit.one_width, inv.fit.one_reference) in
      record {
        fit = inv.fit;
        codes_long = length_back cs a (a + L - a) ys yl fits ∙ inv.codes_long;
        references_long = simp length-set inv.references_long;
        exponents_long = simp length-set inv.exponents_long;
        within = omega arith;
        left = r.0;
        codes =
            written_turn L 0 (codes_of mark) (length xs / L) bs xs cs (back cs a (a + L - a) ys) a a L i (length rs₀ - (i + 1)) q
            (subst (λ (j : ℕ). take (a + j) (back cs a (a + L - a) ys) ≡ take a cs ++ codes_of mark (get_or bs i 0) part) k (take_back cs a (a + L - a) ys yl fits ∙ ap (λ (z : List ℕ). take a cs ++ z) ce'))
            (subst (λ (j : ℕ). Written L 0 (codes_of mark) (length xs / L) bs xs cs a a i j) m inv.codes);
        references =
            written_turn L 0 (reference_of mark) (length xs / L) bs xs (map (to_bits binary32) rs) (map (to_bits binary32) (set rs i v.reference)) a i 1 i (length rs₀ - (i + 1)) q
            (take_set_map (to_bits binary32) rs i v.reference (omega (arith, inv.references_long)) ∙ ap (λ (z : ℕ). take i (map (to_bits binary32) rs) ++ (z ∷ [])) ve'.reference)
            (subst (λ (j : ℕ). Written L 0 (reference_of mark) (length xs / L) bs xs (map (to_bits binary32) rs) a i i j) m inv.references);
        exponents =
            written_turn L 0 (exponent_of mark) (length xs / L) bs xs es (set es i z) a i 1 i (length rs₀ - (i + 1)) q
            (rw (add-one, take-suc-set es i z (omega (arith, inv.exponents_long, inv.fit.one_exponent, inv.fit.one_reference))) (ap (λ (q : ℤ). take i es ++ (q ∷ [])) (ze ∙ ve'.exponent)))
            (subst (λ (j : ℕ). Written L 0 (exponent_of mark) (length xs / L) bs xs es a i i j) m inv.exponents);
      }

  -- at the end
  module _ (h : length rs₀ ≤ i) where
    none : length rs₀ - i ≡ 0
    none = omega arith

    all : a ≡ length xs
    all = let q : a + 0 * L ≡ length xs = subst (λ (j : ℕ). a + j * L ≡ length xs) none inv.left in omega arith

    few : length bs ≤ i
    few = omega (arith, inv.fit.one_width, inv.fit.one_reference)

    pub codes_end : cs ≡ packed_codes 23 8 277 mark L bs xs
    unfolding packed_codes layers
    codes_end =
        written_end L 0 (codes_of mark) (length xs / L) bs xs cs a a i (omega (arith, all, inv.codes_long, inv.fit.as_many)) few
        (subst (λ (j : ℕ). Written L 0 (codes_of mark) (length xs / L) bs xs cs a a i j) none inv.codes)

    pub references_end : map (to_bits binary32) rs ≡ packed_references mark L bs xs
    unfolding packed_layers layers
    references_end =
        written_end L 0 (reference_of mark) (length xs / L) bs xs (map (to_bits binary32) rs) a i i (rw length-map (omega (arith, inv.references_long))) few
        (subst (λ (j : ℕ). Written L 0 (reference_of mark) (length xs / L) bs xs (map (to_bits binary32) rs) a i i j) none inv.references)
        ∙ flat_zip (λ l. l.reference) (layer_of 23 8 277 mark) bs (runs L (length xs / L) xs)

    pub exponents_end : es ≡ packed_exponents mark L bs xs
    unfolding packed_layers layers
    exponents_end =
        written_end L 0 (exponent_of mark) (length xs / L) bs xs es a i i (omega (arith, inv.exponents_long, inv.fit.one_exponent, inv.fit.one_reference)) few
        (subst (λ (j : ℕ). Written L 0 (exponent_of mark) (length xs / L) bs xs es a i i j) none inv.exponents)
        ∙ flat_zip stored_exponent (layer_of 23 8 277 mark) bs (runs L (length xs / L) xs)
