-- The reference of a layer that can be packed is finite.
use mathlib.Core.Path.{◌≡◌, refl}
use mathlib.Core.Bool.{Bool, true, false, cond}
use mathlib.Core.List.{List, [], ◌∷◌}
use Prim.Native.Nat.{ℕ, suc, suc-le-suc}
use native.Mathlib.Decide.{ℕ_discrete}
use native.Mathlib.Omega.{arith}
use borrow.Author.Tests.{eq-eqb, ne_eqb}
use lib.Dec.{leb, eqb}
use Rattle.meaning.specs.Readings.{magnitude, infinity, finite, position, missing}
use Rattle.meaning.specs.Layers.{Summary, Nothing, Flat, Spread, smallest, plus_zero, smaller, larger, widened, summary, layer_of}
use Rattle.meaning.proofs.Patterns.{below_finite}
use Rattle.meaning.proofs.Packing.{Packable}

-- a summary of finite readings has finite values
abbrev Finites : Summary → Type 0
Finites Nothing = Unit {0}
Finites (Flat a) = finite 23 8 a ≡ true
Finites (Spread a z) = (finite 23 8 a ≡ true) × (finite 23 8 z ≡ true)

chosen : (b : Bool) (v w : ℕ) → finite 23 8 v ≡ true → finite 23 8 w ≡ true → finite 23 8 (cond b v w) ≡ true
chosen true v w f g = f
chosen false v w f g = g

widened_finite : (v : ℕ) (s : Summary) → finite 23 8 v ≡ true → Finites s → Finites (widened 23 8 v s)
unfolding widened smaller larger
widened_finite v Nothing f u = f
widened_finite v (Flat a) f u = go (eqb v a)
  where
    go : (b : Bool) → Finites (cond b (Flat a) (Spread (smaller 23 8 v a) (larger 23 8 v a)))
    go true = u
    go false = (chosen (leb (position 23 8 v) (position 23 8 a)) v a f u, chosen (leb (position 23 8 v) (position 23 8 a)) a v u f)
widened_finite v (Spread a z) f u = (chosen (leb (position 23 8 v) (position 23 8 a)) v a f u.0, chosen (leb (position 23 8 v) (position 23 8 z)) z v u.1 f)

zero_finite : finite 23 8 0 ≡ true
unfolding finite magnitude infinity
zero_finite = refl

plain : (w : ℕ) → finite 23 8 w ≡ true → finite 23 8 (plus_zero 23 8 w) ≡ true
unfolding plus_zero
plain w f = chosen (eqb (magnitude 23 8 w) 0) 0 w zero_finite f

summary_finite : (mark : ℕ) (ws : List ℕ) → Packable 23 8 mark ws → Finites (summary 23 8 mark ws)
unfolding summary missing
summary_finite mark [] p = tt
summary_finite mark (w ∷ ws) p = go (ℕ_discrete w mark) (summary_finite mark ws (λ i h. p (suc i) (suc-le-suc h)))
  where
    go : Dec (w ≡ mark) → Finites (summary 23 8 mark ws) → Finites (summary 23 8 mark (w ∷ ws))
    go (yes e) u = rw (eq-eqb w mark e) u
    go (no e) u = rw (ne_eqb w mark e) (widened_finite (plus_zero 23 8 w) (summary 23 8 mark ws) (plain w (below_finite 23 8 w (p 0 (omega arith) e))) u)

pub reference_finite : (last mark width : ℕ) (ws : List ℕ) → Packable 23 8 mark ws → finite 23 8 (layer_of 23 8 last mark width ws).reference ≡ true
unfolding layer_of smallest
reference_finite last mark width ws p = go (summary 23 8 mark ws) (summary_finite mark ws p)
  where
    go : (s : Summary) → Finites s → finite 23 8 (smallest s) ≡ true
    go Nothing u = zero_finite
    go (Flat a) u = u
    go (Spread a z) u = u.0
