-- The summary of a run of readings is the one between its smallest and its largest key.
use mathlib.Core.Path.{◌≡◌, refl, sym, ◌∙◌, subst}
use mathlib.Core.Logic.{◌≢◌, ◌⊎◌, inl, inr}
use mathlib.Core.Bool.{cond}
use mathlib.Core.List.{List, [], ◌∷◌}
use Prim.Native.Nat.{ℕ, suc, min, max, ◌+◌, ◌≤◌, ◌<◌, zero-le, suc-le-suc}
use native.Mathlib.Numerals.{add-one}
use native.Mathlib.Decide.{ℕ_discrete}
use native.Mathlib.Omega.{arith}
use borrow.Author.Tests.{lt-ltb, le-ltb, eq-eqb, ne_eqb}
use lib.Dec.{eqb}
use lib.ListN.{length, get_or, drop, drop_of_length-le}
use lib.Seq.{drop-cons}
use Rattle.meaning.specs.Readings.{magnitude, infinity, position, missing}
use Rattle.meaning.specs.Layers.{Summary, Nothing, Flat, Spread, plus_zero, smaller, larger, widened, summary}
use Rattle.summary.specs.Keys.{key, unkey, Key, lowest, highest, between}
use Rattle.summary.specs.Summaries.{Packable}
use Rattle.summary.proofs.Keys.{finite_key, unkey_key, unkey_below, key_order, smaller_key, larger_key, unkey_other}

between_nothing : (low high : ℕ) → high < low → between low high ≡ Nothing
unfolding between
between_nothing low high h = rw (lt-ltb high low h) refl

between_flat : (k : ℕ) → between k k ≡ Flat (unkey k)
unfolding between
between_flat k = rw (le-ltb k k (omega arith), eq-eqb k k refl) refl

between_spread : (low high : ℕ) → low < high → between low high ≡ Spread (unkey low) (unkey high)
unfolding between
between_spread low high h = rw (le-ltb high low (omega arith), ne_eqb low high (λ (e : low ≡ high). omega arith)) refl

widened_flat : (v a : ℕ) → v ≢ a → widened 23 8 v (Flat a) ≡ Spread (smaller 23 8 v a) (larger 23 8 v a)
unfolding widened
widened_flat v a h = rw (ne_eqb v a h) refl

widened_same : (v : ℕ) → widened 23 8 v (Flat v) ≡ Flat v
unfolding widened
widened_same v = rw (eq-eqb v v refl) refl

spread_is : (v a z : ℕ) → widened 23 8 v (Spread a z) ≡ Spread (smaller 23 8 v a) (larger 23 8 v z)
unfolding widened
spread_is v a z = refl

-- one more value, by its key
wider : (k low high : ℕ) → Key k → Key low → Key high → low ≤ high → widened 23 8 (unkey k) (between low high) ≡ between (min k low) (max k high)
wider k low high f g h l = go (ℕ_discrete low high) (ℕ_discrete k low)
  where
    go : Dec (low ≡ high) → Dec (k ≡ low) → widened 23 8 (unkey k) (between low high) ≡ between (min k low) (max k high)
    go (yes e) (yes z) =
        let a : min k low ≡ k = omega arith in
        let b : max k high ≡ k = omega arith in
        let c : low ≡ k = sym z in
        let d : high ≡ k = sym e ∙ c in
        rw (a, b, c, d, between_flat k) (widened_same (unkey k))
    go (yes e) (no z) =
        let o : min k low < max k low = omega arith in
        rw (← e, between_flat low, between_spread (min k low) (max k low) o)
        (widened_flat (unkey k) (unkey low) (unkey_other k low f g z) ∙ rw (smaller_key k low f g, larger_key k low f g) refl)
    go (no e) z =
        let o : min k low < max k high = omega arith in
        let p : low < high = omega arith in
        rw (between_spread low high p, between_spread (min k low) (max k high) o) (spread ∙ rw (smaller_key k low f g, larger_key k high f h) refl)
      where
        spread : widened 23 8 (unkey k) (Spread (unkey low) (unkey high)) ≡ Spread (smaller 23 8 (unkey k) (unkey low)) (larger 23 8 (unkey k) (unkey high))
        spread = spread_is (unkey k) (unkey low) (unkey high)

lowest_few : (mark : ℕ) (ws : List ℕ) → lowest mark ws ≤ 4294967295
unfolding lowest
lowest_few mark [] = omega arith
lowest_few mark (w ∷ ws) = omega (arith, lowest_few mark ws)

first : (k : ℕ) → Key k → widened 23 8 (unkey k) Nothing ≡ between (min k 4294967295) (max k 0)
unfolding widened
first k f =
    let a : min k 4294967295 ≡ k = omega (arith, f.below) in
    let b : max k 0 ≡ k = omega arith in
    rw (a, b) (sym (between_flat k))

-- ---- the readings one by one

-- nothing is present, or both ends are keys
abbrev pub Ended : ℕ → ℕ → Type 0
Ended low high = ((low ≡ 4294967295) × (high ≡ 0)) ⊎ ((Key low × Key high) × (low ≤ high))

pub record Made (mark : ℕ) (ws : List ℕ) : Type 0 where
  pub ended : Ended (lowest mark ws) (highest mark ws)
  pub is : summary 23 8 mark ws ≡ between (lowest mark ws) (highest mark ws)

module _ (mark w : ℕ) (ws : List ℕ) where
  left_out : w ≡ mark → Made mark ws → Made mark (w ∷ ws)
  unfolding summary missing lowest highest
  left_out e m =
      let t = eq-eqb w mark e in
      let a : min 4294967295 (lowest mark ws) ≡ lowest mark ws = few m.ended in
      let b : max 0 (highest mark ws) ≡ highest mark ws = omega arith in
      record { ended = rw (t, a, b) m.ended; is = rw (t, a, b) m.is }
    where
      few : Ended (lowest mark ws) (highest mark ws) → min 4294967295 (lowest mark ws) ≡ lowest mark ws
      few (inl x) = omega (arith, x.0)
      few (inr x) = omega (arith, x.0.0.below)

  taken_in : w ≢ mark → Key (key w) → unkey (key w) ≡ plus_zero 23 8 w → Made mark ws → Made mark (w ∷ ws)
  unfolding summary missing lowest highest
  taken_in e f u m =
      let t = ne_eqb w mark e in
      record { ended = rw t (ends m.ended); is = rw (t, ← u, m.is) (values m.ended) }
    where
      k : ℕ
      k = key w

      ends : Ended (lowest mark ws) (highest mark ws) → Ended (min (key w) (lowest mark ws)) (max (key w) (highest mark ws))
      ends (inl x) =
          let a : min (key w) (lowest mark ws) ≡ key w = omega (arith, x.0, f.below) in
          let b : max (key w) (highest mark ws) ≡ key w = omega (arith, x.1) in
          rw (a, b) (inr ((f, f), omega arith))
      ends (inr x) =
          let g = x.0.0 in
          let h = x.0.1 in
          inr (
            (record { above = omega (arith, f.above, g.above); below = omega (arith, f.below) }, record { above = omega (arith, f.above); below = omega (arith, f.below, h.below) }),
            omega (arith, x.1),
          )

      values : Ended (lowest mark ws) (highest mark ws)
          → widened 23 8 (unkey (key w)) (between (lowest mark ws) (highest mark ws)) ≡ between (min (key w) (lowest mark ws)) (max (key w) (highest mark ws))
      values (inl x) =
          let n : highest mark ws < lowest mark ws = omega (arith, x.0, x.1) in
          rw (between_nothing (lowest mark ws) (highest mark ws) n, x.0, x.1) (first (key w) f)
      values (inr x) = wider (key w) (lowest mark ws) (highest mark ws) f x.0.0 x.0.1 x.1

pub made : (mark : ℕ) (ws : List ℕ) → Packable mark ws → ((i : ℕ) → i < length ws → get_or ws i 0 < 4294967296) → Made mark ws
unfolding summary lowest highest
made mark [] p b = record { ended = inl (refl, refl); is = sym (between_nothing 4294967295 0 (omega arith)) }
made mark (w ∷ ws) p b = go (ℕ_discrete w mark) (made mark ws (λ i h. p (suc i) (suc-le-suc h)) (λ i h. b (suc i) (suc-le-suc h)))
  where
    fits : w < 4294967296
    fits = b 0 (suc-le-suc zero-le)

    go : Dec (w ≡ mark) → Made mark ws → Made mark (w ∷ ws)
    go (yes e) rest = left_out mark w ws e rest
    go (no e) rest = taken_in mark w ws e (finite_key w fits (p 0 (suc-le-suc zero-le) e)) (unkey_key w fits) rest

-- two ends, the smaller first, are keys
pub both_keys : (low high a z : ℕ) → Ended low high → a ≡ low → z ≡ high → a ≤ z → Key a × Key z
both_keys low high a z (inl x) p q h = absurd (omega (arith, x.0, x.1))
both_keys low high a z (inr x) p q h = rw (p, q) x.0

-- ---- a smallest and a largest value

-- both are finite, and they differ
pub record Spreads (a z : ℕ) : Type 0 where
  pub low : magnitude 23 8 a < infinity 23 8
  pub high : magnitude 23 8 z < infinity 23 8
  pub differ : position 23 8 a < position 23 8 z

spread_keys : (low high : ℕ) → Key low → Key high → low < high → Spreads (unkey low) (unkey high)
spread_keys low high f g h = record { low = unkey_below low f; high = unkey_below high g; differ = key_order low high f g h }

abbrev Apart : Summary → Type 0
Apart Nothing = Unit {0}
Apart (Flat a) = Unit {0}
Apart (Spread a z) = Spreads a z

between_apart : (low high : ℕ) → Ended low high → Apart (between low high)
between_apart low high (inl x) = rw (between_nothing low high (omega (arith, x.0, x.1))) tt
between_apart low high (inr x) = go (ℕ_discrete low high)
  where
    go : Dec (low ≡ high) → Apart (between low high)
    go (yes e) = rw (e, between_flat high) tt
    go (no e) = let l : low < high = omega (arith, x.1) in rw (between_spread low high l) (spread_keys low high x.0.0 x.0.1 l)

pub spreads : (mark : ℕ) (ws : List ℕ) (a z : ℕ) → Made mark ws → summary 23 8 mark ws ≡ Spread a z → Spreads a z
spreads mark ws a z m e = subst Apart (sym m.is ∙ e) (between_apart (lowest mark ws) (highest mark ws) m.ended)

-- ---- the loop: what the rest of the readings adds to the ends so far

pub record Turn (mark : ℕ) (xs : List ℕ) (low high i : ℕ) : Type 0 where
  pub few : low ≤ 4294967295
  pub lows : min low (lowest mark (drop i xs)) ≡ lowest mark xs
  pub highs : max high (highest mark (drop i xs)) ≡ highest mark xs

pub start : (mark : ℕ) (xs : List ℕ) → Turn mark xs 4294967295 0 0
start mark xs = record { few = omega arith; lows = low xs; highs = omega arith }
  where
    small : (ws : List ℕ) → lowest mark ws ≤ 4294967295
    small ws = lowest_few mark ws

    low : (ws : List ℕ) → min 4294967295 (lowest mark ws) ≡ lowest mark ws
    low ws = omega (arith, small ws)

module _ (mark : ℕ) (xs : List ℕ) (low high i : ℕ) (inv : Turn mark xs low high i) where
  pub turn : i < length xs → (a b newLow newHigh : ℕ) → a ≡ cond (eqb (get_or xs i 0) mark) 4294967295 (key (get_or xs i 0))
      → b ≡ cond (eqb (get_or xs i 0) mark) 0 (key (get_or xs i 0)) → newLow ≡ min a low → newHigh ≡ max b high → Turn mark xs newLow newHigh (i + 1)
  unfolding lowest highest
  turn h a b l m ae be le me =
      record {
        few = omega (arith, inv.few);
        lows = rw add-one (omega (arith, rw (drop-cons xs i 0 h, ← ae) at inv.lows));
        highs = rw add-one (omega (arith, rw (drop-cons xs i 0 h, ← be) at inv.highs));
      }

  pub low_end : length xs ≤ i → low ≡ lowest mark xs
  unfolding lowest
  low_end h = omega (arith, inv.few, rw (drop_of_length-le xs h) at inv.lows)

  pub high_end : length xs ≤ i → high ≡ highest mark xs
  unfolding highest
  high_end h = omega (arith, rw (drop_of_length-le xs h) at inv.highs)
