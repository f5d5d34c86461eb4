-- Question 12 layer by layer: while the loop runs, the whole turns on the layers that are left.
use mathlib.Core.Path.{◌≡◌, sym, ap, ap₂, ◌∙◌, subst}
use mathlib.Core.Logic.{◌⊎◌, inl, inr}
use mathlib.Core.Bool.{Bool, true, false, ◌&&◌}
use mathlib.Core.List.{List, [], ◌∷◌, ◌++◌, zip_with}
use Prim.Native.Nat.{ℕ, suc, min, ◌+◌, ◌*◌, ◌/◌, ◌≤◌}
use native.Mathlib.Nat.{div-add-mod'}
use native.Mathlib.Omega.{arith}
use lib.Dec.{leb}
use lib.ListN.{length, length-append, drop_of_length-le}
use lib.Seq.{take_all}
use Rattle.std.proofs.lemmas.List.{take-append-le, drop-append-le}
use Rattle.std.proofs.lemmas.Nat.{div-mul-add}
use Rattle.meaning.specs.Layers.{missing_code, runs, layers}
use Rattle.meaning.specs.Questions.{all, code_in_range}
use Rattle.asking_codes.specs.Codes.{BitsOf, InLayers}

-- does a layer of width w hold no code above its missing one?
abbrev known : ℕ → List ℕ → Bool
known w part = all (code_in_range w) part

abbrev pub all_known : ℕ → List ℕ → List ℕ → Bool
all_known L ws cs = all (λ good. good) (zip_with (λ w part. all (code_in_range w) part) ws (layers L cs))

-- the widths and the codes that are left, which are cut by `size`
pub record Turn (L : ℕ) (ws cs : List ℕ) (size : ℕ) (whole : Bool) : Type 0 where
  pub by : size ≡ L
  pub fit : InLayers L ws cs
  pub rest : all_known L ws cs ≡ whole

-- one more layer
module _ (L w size : ℕ) (us ws ds part cs : List ℕ) (whole : Bool) (before : Turn L us ds size whole) (width : us ≡ w ∷ ws) (codes : ds ≡ part ++ cs) (long : length part ≡ min size (length ds)) where
  turn : Turn L (w ∷ ws) (part ++ cs) size whole
  turn = subst (λ (x : List ℕ). Turn L x (part ++ cs) size whole) width (subst (λ (x : List ℕ). Turn L us x size whole) codes before)

  all_codes : length ws * L + L ≡ length (part ++ cs)
  all_codes = omega (arith, div-add-mod' (length (part ++ cs)) L, turn.fit.whole, ap (λ (n : ℕ). n * L) turn.fit.one_width)

  part_long : length part ≡ L
  part_long = omega (arith, long, turn.by, all_codes, ap length codes)

  rest_long : length cs ≡ length ws * L + 0
  rest_long = omega (arith, all_codes, part_long, length-append part cs)

  as_many : length cs / L ≡ length ws
  as_many = ap (λ (n : ℕ). n / L) rest_long ∙ div-mul-add (length ws) L 0 turn.fit.some

  cut : layers L (part ++ cs) ≡ part ∷ layers L cs
  unfolding layers runs
  cut =
      let h : L ≤ length part = omega (arith, part_long) in
      let k : length part ≤ L = omega (arith, part_long) in
      ap (λ (n : ℕ). runs L n (part ++ cs)) (sym turn.fit.one_width)
      ∙ ap₂ (λ (p : List ℕ) (q : List ℕ). p ∷ runs L (length ws) q)
      (take-append-le L part cs h ∙ take_all L part k) (drop-append-le L part cs h ∙ ap (λ (q : List ℕ). q ++ cs) (drop_of_length-le part k))
      ∙ ap (λ (n : ℕ). part ∷ runs L n cs) (sym as_many)

  pub few_bits : w ≤ 16
  few_bits = turn.fit.few_bits 0 (omega arith)

  module _ (m bits : ℕ) (me : m ≡ missing_code w) (be : BitsOf bits part) where
    -- this layer, by the bits of its codes
    split : leb bits m && all_known L ws cs ≡ whole
    unfolding all zip_with
    split = ap (λ (b : Bool). b && all_known L ws cs) (ap (leb bits) me ∙ be w) ∙ sym (ap (λ l. all (λ good. good) (zip_with known (w ∷ ws) l)) cut) ∙ turn.rest

    pub fails : leb bits m ≡ false → false ≡ whole
    fails f = sym (ap (λ (b : Bool). b && all_known L ws cs) f) ∙ split

    pub passes : leb bits m ≡ true → (after : ℕ) → after ≡ size → Turn L ws cs after whole
    passes t after e =
        record {
          by = e ∙ turn.by;
          fit =
              record {
                some = turn.fit.some;
                whole = omega (arith, div-add-mod' (length cs) L, ap (λ (n : ℕ). n * L) as_many, rest_long);
                one_width = sym as_many;
                few_bits = λ i h. turn.fit.few_bits (suc i) (omega arith);
              };
          rest = sym (ap (λ (b : Bool). b && all_known L ws cs) t) ∙ split;
        }

-- no layer is left
pub end : (L : ℕ) (ws cs : List ℕ) (size : ℕ) (whole : Bool) → Turn L ws cs size whole → (length ws ≡ 0) ⊎ (length cs ≡ 0) → true ≡ whole
unfolding all zip_with
end L [] cs size whole t h = t.rest
end L (w ∷ ws) cs size whole t (inl h) = absurd (omega arith)
end L (w ∷ ws) cs size whole t (inr h) =
    absurd (let e : length cs ≡ 0 * L + 0 = omega (arith, h) in omega (arith, ap (λ (n : ℕ). n / L) e ∙ div-mul-add 0 L 0 t.fit.some, t.fit.one_width))
