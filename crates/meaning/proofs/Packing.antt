-- One layer: its summary spans every present reading, its step exponent is the least that holds the span, and so every code is at most the last one and stands
-- for a value within half a step.
use mathlib.Core.Path.{◌≡◌, refl, sym, ap, ◌∙◌, subst}
use mathlib.Core.Logic.{◌≢◌}
use mathlib.Core.Bool.{Bool, true, false, true≢false}
use mathlib.Core.List.{List, [], ◌∷◌}
use Prim.Native.Nat.{ℕ, zero, suc, min, max, ◌+◌, ◌-◌, ◌*◌, ◌^◌, ◌≤◌, ◌<◌, zero-le, suc-le-suc}
use native.Mathlib.Nat.{le_trans, zero-add, add-zero, add-suc, suc-add, not-suc-le-zero, le_of_suc-le-suc, min-eq_left, min-eq_right, max-eq_left, max-eq_right, mod-eq_of_lt, le_of_lt, mul-le-mul_right}
use native.Mathlib.Decide.{dec_le, ℕ_discrete}
use native.Mathlib.Omega.{arith}
use borrow.Author.Tests.{eq-eqb, ne_eqb, le-leb, lt-leb, leb-true}
use lib.ListN.{length, get_or}
use lib.Pow.{pow_pos, pow_mono}
use Rattle.meaning.specs.Readings.{exponent_field, fraction, size, sign, magnitude, infinity, origin, position, distance, missing}
use Rattle.meaning.specs.Methods.{nearest}
use Rattle.meaning.specs.Layers.{Summary, Nothing, Flat, Spread, Layer, missing_code, last_code, holds, least_from, plus_zero, smaller, larger, widened, summary, smallest, span, layer_of, code, code_meaning}
use Rattle.meaning.proofs.Sizes.{size_small}
use Rattle.meaning.proofs.Patterns.{size_below, position_plus, position_minus}
use Rattle.meaning.proofs.Nearest.{nearest_half, nearest_between}

-- ---- the least exponent that holds the span

module _ (b n : ℕ) where
  pub holds_order : (e : ℕ) → holds b n e ≡ true → n ≤ last_code b * 2 ^ e
  unfolding holds
  holds_order e h = leb-true n (last_code b * 2 ^ e) h

  pub order_holds : (e : ℕ) → n ≤ last_code b * 2 ^ e → holds b n e ≡ true
  unfolding holds
  order_holds e h = le-leb n (last_code b * 2 ^ e) h

  least_now : (more e : ℕ) → holds b n e ≡ true → least_from b n (suc more) e ≡ e
  unfolding least_from
  least_now more e h = rw h refl

  least_later : (more e : ℕ) → holds b n e ≡ false → least_from b n (suc more) e ≡ least_from b n more (suc e)
  unfolding least_from
  least_later more e h = rw h refl

  -- it holds the span where the last one does
  pub least_holds : (more e : ℕ) → holds b n (more + e) ≡ true → holds b n (least_from b n more e) ≡ true
  unfolding least_from
  least_holds zero e h = rw zero-add at h
  least_holds (suc more) e h = go (holds b n e) refl (least_holds more (suc e) (rw add-suc (rw suc-add at h)))
    where
      go : (x : Bool) → holds b n e ≡ x → holds b n (least_from b n more (suc e)) ≡ true → holds b n (least_from b n (suc more) e) ≡ true
      go true p ih = rw (least_now more e p) p
      go false p ih = rw (least_later more e p) ih

  -- and no smaller one does
  pub least_least : (more e d : ℕ) → e ≤ d → holds b n d ≡ true → least_from b n more e ≤ d
  unfolding least_from
  least_least zero e d l h = l
  least_least (suc more) e d l h = go (holds b n e) refl (ℕ_discrete d e) (least_least more (suc e) d)
    where
      go : (x : Bool) → holds b n e ≡ x → Dec (d ≡ e) → (suc e ≤ d → holds b n d ≡ true → least_from b n more (suc e) ≤ d) → least_from b n (suc more) e ≤ d
      go true p z ih = rw (least_now more e p) l
      go false p (yes z) ih = absurd (true≢false (sym h ∙ rw z p))
      go false p (no z) ih = rw (least_later more e p) (ih (omega arith) h)

module _ (F X : ℕ) where
  -- ---- the smaller and the larger of two, and a zero as +0

  pub smaller_position : (v w : ℕ) → position F X (smaller F X v w) ≡ min (position F X v) (position F X w)
  unfolding smaller
  smaller_position v w = go (dec_le (position F X v) (position F X w))
    where
      go : Dec (position F X v ≤ position F X w) → position F X (smaller F X v w) ≡ min (position F X v) (position F X w)
      go (yes h) = rw (le-leb (position F X v) (position F X w) h) (sym (min-eq_left h))
      go (no h) =
          let k : position F X w < position F X v = omega arith in
          rw (lt-leb (position F X v) (position F X w) k) (sym (min-eq_right (le_of_lt k)))

  pub larger_position : (v w : ℕ) → position F X (larger F X v w) ≡ max (position F X v) (position F X w)
  unfolding larger
  larger_position v w = go (dec_le (position F X v) (position F X w))
    where
      go : Dec (position F X v ≤ position F X w) → position F X (larger F X v w) ≡ max (position F X v) (position F X w)
      go (yes h) = rw (le-leb (position F X v) (position F X w) h) (sym (max-eq_right h))
      go (no h) =
          let k : position F X w < position F X v = omega arith in
          rw (lt-leb (position F X v) (position F X w) k) (sym (max-eq_left (le_of_lt k)))

  zero_position : (w : ℕ) → magnitude F X w ≡ 0 → position F X w ≡ origin F X
  zero_position w z = go (ℕ_discrete (sign F X w) 0)
    where
      none : size F (magnitude F X w) ≡ 0
      none = rw z (size_small F 0 (pow_pos F))

      go : Dec (sign F X w ≡ 0) → position F X w ≡ origin F X
      go (yes s) = rw (position_plus F X w s, none) (omega arith)
      go (no s) = rw (position_minus F X w s, none) (omega arith)

  zero_magnitude : magnitude F X 0 ≡ 0
  unfolding magnitude
  zero_magnitude = mod-eq_of_lt (pow_pos (F + X))

  plus_zero_position : (w : ℕ) → position F X (plus_zero F X w) ≡ position F X w
  unfolding plus_zero
  plus_zero_position w = go (ℕ_discrete (magnitude F X w) 0)
    where
      go : Dec (magnitude F X w ≡ 0) → position F X (plus_zero F X w) ≡ position F X w
      go (yes z) = rw (eq-eqb (magnitude F X w) 0 z) (zero_position 0 zero_magnitude ∙ sym (zero_position w z))
      go (no z) = rw (ne_eqb (magnitude F X w) 0 z) refl

  -- ---- the summary spans the position p

  abbrev pub Spans : Summary → ℕ → Type 0
  Spans Nothing p = ⊥
  Spans (Flat a) p = position F X a ≡ p
  Spans (Spread a z) p = (position F X a ≤ p) × (p ≤ position F X z)

  widened_new : (v : ℕ) (s : Summary) → Spans (widened F X v s) (position F X v)
  unfolding widened
  widened_new v Nothing = refl
  widened_new v (Flat a) = go (ℕ_discrete v a)
    where
      go : Dec (v ≡ a) → Spans (widened F X v (Flat a)) (position F X v)
      go (yes e) = rw (eq-eqb v a e) (ap (position F X) (sym e))
      go (no e) = rw (ne_eqb v a e) (omega (arith, smaller_position v a, larger_position v a))
  widened_new v (Spread a z) = omega (arith, smaller_position v a, larger_position v z)

  widened_old : (v p : ℕ) (s : Summary) → Spans s p → Spans (widened F X v s) p
  unfolding widened
  widened_old v p Nothing h = absurd h
  widened_old v p (Flat a) h = go (ℕ_discrete v a)
    where
      go : Dec (v ≡ a) → Spans (widened F X v (Flat a)) p
      go (yes e) = rw (eq-eqb v a e) h
      go (no e) = rw (ne_eqb v a e) (omega (arith, smaller_position v a, larger_position v a))
  widened_old v p (Spread a z) h = omega (arith, smaller_position v a, larger_position v z)

  -- the summary with the first reading left out, and taken in
  summary_missing : (mark w : ℕ) (ws : List ℕ) → w ≡ mark → summary F X mark (w ∷ ws) ≡ summary F X mark ws
  unfolding summary missing
  summary_missing mark w ws e = rw (eq-eqb w mark e) refl

  summary_present : (mark w : ℕ) (ws : List ℕ) → w ≢ mark → summary F X mark (w ∷ ws) ≡ widened F X (plus_zero F X w) (summary F X mark ws)
  unfolding summary missing
  summary_present mark w ws e = rw (ne_eqb w mark e) refl

  pub summary_spans : (mark : ℕ) (ws : List ℕ) (i : ℕ) → i < length ws → get_or ws i 0 ≢ mark → Spans (summary F X mark ws) (position F X (get_or ws i 0))
  summary_spans mark [] i h p = absurd (not-suc-le-zero h)
  summary_spans mark (w ∷ ws) zero h p =
      rw (summary_present mark w ws p, ← plus_zero_position w) (widened_new (plus_zero F X w) (summary F X mark ws))
  summary_spans mark (w ∷ ws) (suc i) h p = go (ℕ_discrete w mark) (summary_spans mark ws i (le_of_suc-le-suc h) p)
    where
      q : ℕ
      q = position F X (get_or ws i 0)

      go : Dec (w ≡ mark) → Spans (summary F X mark ws) q → Spans (summary F X mark (w ∷ ws)) q
      go (yes e) s = rw (summary_missing mark w ws e) s
      go (no e) s = rw (summary_present mark w ws e) (widened_old (plus_zero F X w) q (summary F X mark ws) s)

  -- the reference is lowest, and the span holds the difference
  spans_span : (s : Summary) (p : ℕ) → Spans s p → (position F X (smallest s) ≤ p) × (p - position F X (smallest s) ≤ span F X s)
  unfolding smallest span
  spans_span Nothing p h = absurd h
  spans_span (Flat a) p h = omega arith
  spans_span (Spread a z) p h = omega arith

  -- ---- an exponent that holds the span of every layer that can be packed

  -- every present reading is finite
  abbrev pub Packable : ℕ → List ℕ → Type 0
  Packable mark ws = (i : ℕ) → i < length ws → get_or ws i 0 ≢ mark → magnitude F X (get_or ws i 0) < infinity F X

  position_under : (w : ℕ) → magnitude F X w < infinity F X → position F X w ≤ 2 * origin F X
  position_under w h = go (ℕ_discrete (sign F X w) 0)
    where
      go : Dec (sign F X w ≡ 0) → position F X w ≤ 2 * origin F X
      go (yes s) = rw (position_plus F X w s) (omega (arith, size_below F X h))
      go (no s) = rw (position_minus F X w s) (omega arith)

  -- the largest value lies at most that high
  abbrev Under : Summary → Type 0
  Under Nothing = Unit {0}
  Under (Flat a) = position F X a ≤ 2 * origin F X
  Under (Spread a z) = position F X z ≤ 2 * origin F X

  widened_under : (v : ℕ) (s : Summary) → position F X v ≤ 2 * origin F X → Under s → Under (widened F X v s)
  unfolding widened
  widened_under v Nothing h u = h
  widened_under v (Flat a) h u = go (ℕ_discrete v a)
    where
      go : Dec (v ≡ a) → Under (widened F X v (Flat a))
      go (yes e) = rw (eq-eqb v a e) u
      go (no e) = rw (ne_eqb v a e) (omega (arith, larger_position v a))
  widened_under v (Spread a z) h u = omega (arith, larger_position v z)

  summary_under : (mark : ℕ) (ws : List ℕ) → Packable mark ws → Under (summary F X mark ws)
  unfolding summary
  summary_under mark [] p = tt
  summary_under mark (w ∷ ws) p = go (ℕ_discrete w mark) (summary_under mark ws (λ i h. p (suc i) (suc-le-suc h)))
    where
      go : Dec (w ≡ mark) → Under (summary F X mark ws) → Under (summary F X mark (w ∷ ws))
      go (yes e) u = rw (summary_missing mark w ws e) u
      go (no e) u =
          rw (summary_present mark w ws e)
          (widened_under (plus_zero F X w) (summary F X mark ws) (rw (plus_zero_position w) (position_under w (p 0 (suc-le-suc zero-le) e))) u)

  pub span_under : (mark : ℕ) (ws : List ℕ) → Packable mark ws → span F X (summary F X mark ws) ≤ 2 * origin F X
  unfolding span
  span_under mark ws p = go (summary F X mark ws) (summary_under mark ws p)
    where
      go : (s : Summary) → Under s → span F X s ≤ 2 * origin F X
      go Nothing u = zero-le
      go (Flat a) u = zero-le
      go (Spread a z) u = omega arith

  -- ---- the codes of a layer

  pub code_missing : (mark : ℕ) (l : Layer) (w : ℕ) → w ≡ mark → code F X mark l w ≡ missing_code l.width
  unfolding code missing
  code_missing mark l w e = rw (eq-eqb w mark e) refl

  pub code_present : (mark : ℕ) (l : Layer) (w : ℕ) → w ≢ mark → code F X mark l w ≡ nearest (position F X w - position F X l.reference) (2 ^ l.exponent)
  unfolding code missing
  code_present mark l w e = rw (ne_eqb w mark e) refl

  -- what packing promises of a reading w of a layer l by its code c
  pub record CodedIn (mark : ℕ) (l : Layer) (w c : ℕ) : Type 0 where
    pub is_missing_code : w ≡ mark → c ≡ missing_code l.width
    pub other_code : w ≢ mark → c ≤ last_code l.width
    pub half_step : w ≢ mark → 2 * distance (position F X w) (code_meaning F X l c) ≤ 2 ^ l.exponent

  module _ (last mark b : ℕ) (ws : List ℕ) (h : holds b (span F X (summary F X mark ws)) last ≡ true) where
    abbrev s : Summary
    s = summary F X mark ws

    pub layer_holds : holds b (span F X (summary F X mark ws)) (layer_of F X last mark b ws).exponent ≡ true
    unfolding layer_of
    layer_holds = least_holds b (span F X s) last 0 (rw add-zero h)

    pub layer_least : (d : ℕ) → holds b (span F X (summary F X mark ws)) d ≡ true → (layer_of F X last mark b ws).exponent ≤ d
    unfolding layer_of
    layer_least d k = least_least b (span F X s) last 0 d zero-le k

    reference_below : (i : ℕ) → i < length ws → get_or ws i 0 ≢ mark
        → (position F X (layer_of F X last mark b ws).reference ≤ position F X (get_or ws i 0))
        × (position F X (get_or ws i 0) - position F X (layer_of F X last mark b ws).reference ≤ span F X s)
    unfolding layer_of
    reference_below i k e = spans_span s (position F X (get_or ws i 0)) (summary_spans mark ws i k e)

    pub layer_codes : (i : ℕ) → i < length ws → CodedIn mark (layer_of F X last mark b ws) (get_or ws i 0) (code F X mark (layer_of F X last mark b ws) (get_or ws i 0))
    unfolding distance code_meaning layer_of
    layer_codes i k =
        record {
          is_missing_code = λ e. code_missing mark l w e;
          other_code = λ e.
              rw (code_present mark l w e)
              (nearest_between 0 (last_code b) n g (pow_pos l.exponent) (omega arith)
              (omega (arith, reference_below i k e, holds_order b (span F X s) l.exponent layer_holds))).1;
          half_step = λ e. rw (code_present mark l w e) (omega (arith, reference_below i k e, nearest_half n g (pow_pos l.exponent)));
        }
      where
        l : Layer
        l = layer_of F X last mark b ws

        w : ℕ
        w = get_or ws i 0

        n : ℕ
        n = position F X w - position F X l.reference

        g : ℕ
        g = 2 ^ l.exponent

-- the last exponent, 128, holds the span of every layer of singles, whatever its width
origin_singles : origin 23 8 ≡ 2 ^ 277
unfolding origin size exponent_field fraction infinity
origin_singles = refl

widest : (b : ℕ) → 2 ≤ b → 2 * origin 23 8 ≤ last_code b * 2 ^ 277
unfolding last_code
widest b h =
    subst (λ (x : ℕ). 2 * x ≤ (2 ^ b - 2) * 2 ^ 277) (sym origin_singles)
    (mul-le-mul_right {m = 2} {n = 2 ^ b - 2} (2 ^ 277) (omega (arith, pow_mono {i = 2} {j = b} h)))

pub singles_held : (mark b : ℕ) (ws : List ℕ) → 2 ≤ b → Packable 23 8 mark ws → holds b (span 23 8 (summary 23 8 mark ws)) 277 ≡ true
singles_held mark b ws h p = order_holds b (span 23 8 (summary 23 8 mark ws)) 277 (le_trans (span_under 23 8 mark ws p) (widest b h))

-- the last code is below the missing one
pub codes_apart : (b : ℕ) → 1 ≤ b → last_code b < missing_code b
unfolding last_code missing_code
codes_apart b h = omega (arith, pow_mono {i = 1} {j = b} h)
