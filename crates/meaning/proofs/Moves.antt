-- Document 02 (a), "whether the exact value rose, fell or stayed": of a changed reading it rose or fell, never both, since another pattern of the same sign is
-- another exact value. For every width.
use mathlib.Core.Path.{◌≡◌, refl, sym, ◌∙◌, subst}
use mathlib.Core.Logic.{◌≢◌, ◌↔◌}
use mathlib.Core.Bool.{cond, true}
use mathlib.Core.List.{List, [], ◌∷◌}
use Prim.Native.Nat.{ℕ, ◌+◌, ◌<◌}
use native.Mathlib.Nat.{le_refl}
use native.Mathlib.Decide.{dec_lt, ℕ_discrete}
use native.Mathlib.Omega.{arith}
use borrow.Author.Tests.{eq-eqb, ne_eqb, lt-ltb, le-ltb, ltb-true}
use lib.Dec.{ltb}
use lib.IntN.{ℤ}
use Rattle.meaning.specs.Readings.{sign, magnitude, infinity, position}
use Rattle.meaning.specs.Methods.{Method, trimmed, changed, risen, fallen, turn_after, count_from, Counts, counts}
use Rattle.meaning.specs.Questions.{Outcome, refused, accepted, trim_questions}
use Rattle.meaning.specs.Calls.{answering, trim}
use Rattle.meaning.proofs.Sizes.{size_mono, size_le}
use Rattle.meaning.proofs.Patterns.{pattern_back, size_below, position_plus, position_minus}
use Rattle.meaning.proofs.Accepted.{Ready, accepted_ready}
use Rattle.meaning.proofs.OneReading.{stays}

module _ (F X : ℕ) where
  -- ---- two patterns of one sign: the larger magnitude lies further from zero

  pub higher : (v w : ℕ) → sign F X v ≡ 0 → sign F X w ≡ 0 → magnitude F X v < magnitude F X w → position F X v < position F X w
  higher v w a b l = omega (arith, position_plus F X v a, position_plus F X w b, size_mono F l)

  pub lower : (v w : ℕ) → sign F X v ≢ 0 → sign F X w ≢ 0 → magnitude F X w < infinity F X → magnitude F X v < magnitude F X w → position F X w < position F X v
  lower v w a b f l = omega (arith, position_minus F X v a, position_minus F X w b, size_mono F l, size_below F X f)

  higher_only : (v w : ℕ) → sign F X v ≡ 0 → sign F X w ≡ 0 → position F X v < position F X w → magnitude F X v < magnitude F X w
  higher_only v w a b h = go (dec_lt (magnitude F X v) (magnitude F X w))
    where
      go : Dec (magnitude F X v < magnitude F X w) → magnitude F X v < magnitude F X w
      go (yes l) = l
      go (no l) = absurd (omega (arith, h, position_plus F X v a, position_plus F X w b, size_le F {m = magnitude F X w} {n = magnitude F X v} (omega arith)))

  lower_only : (v w : ℕ) → sign F X v ≢ 0 → sign F X w ≢ 0 → position F X w < position F X v → magnitude F X v < magnitude F X w
  lower_only v w a b h = go (dec_lt (magnitude F X v) (magnitude F X w))
    where
      go : Dec (magnitude F X v < magnitude F X w) → magnitude F X v < magnitude F X w
      go (yes l) = l
      go (no l) = absurd (omega (arith, h, position_minus F X v a, position_minus F X w b, size_le F {m = magnitude F X w} {n = magnitude F X v} (omega arith)))

  -- the same sign and magnitude make the same pattern
  pub same_magnitude : (v w : ℕ) → sign F X v ≡ sign F X w → magnitude F X v ≡ magnitude F X w → v ≡ w
  same_magnitude v w s m = sym (pattern_back F X v) ∙ rw (s, m) (pattern_back F X w)

  apart : (v w : ℕ) → sign F X v ≡ sign F X w → magnitude F X v < infinity F X → magnitude F X w < infinity F X → v ≢ w → position F X v ≢ position F X w
  apart v w s fv fw n = go (ℕ_discrete (sign F X v) 0) (dec_lt (magnitude F X v) (magnitude F X w)) (dec_lt (magnitude F X w) (magnitude F X v))
    where
      go : Dec (sign F X v ≡ 0) → Dec (magnitude F X v < magnitude F X w) → Dec (magnitude F X w < magnitude F X v) → position F X v ≢ position F X w
      go (yes z) (yes l) d e = omega (arith, e, higher v w z (sym s ∙ z) l)
      go (no z) (yes l) d e = omega (arith, e, lower v w z (λ y. z (s ∙ y)) fw l)
      go (yes z) (no l) (yes d) e = omega (arith, e, higher w v (sym s ∙ z) z d)
      go (no z) (no l) (yes d) e = omega (arith, e, lower w v (λ y. z (s ∙ y)) z fv d)
      go z (no l) (no d) e = n (same_magnitude v w s (omega arith))

  -- ---- one reading

  module _ (x : Method) (r : Ready x) (mark turn w : ℕ) where
    abbrev v : ℕ
    v = trimmed F X x mark turn w

    moved : v ≢ w → position F X v ≢ position F X w
    moved =
        stays F X (λ u. u ≢ w → position F X u ≢ position F X w) x r mark turn w (λ n. absurd (n refl)) (λ p f g. apart v w g.signed g.below f)

    -- changed, it rose or fell
    pub rose_or_fell : cond (changed F X x mark turn w) 1 0 ≡ cond (risen F X x mark turn w) 1 0 + cond (fallen F X x mark turn w) 1 0
    unfolding changed risen fallen
    rose_or_fell = go (ℕ_discrete v w) (dec_lt (position F X w) (position F X v))
      where
        go : Dec (v ≡ w) → Dec (position F X w < position F X v) → cond (changed F X x mark turn w) 1 0 ≡ cond (risen F X x mark turn w) 1 0 + cond (fallen F X x mark turn w) 1 0
        go (yes e) d = rw (e, eq-eqb w w refl, le-ltb (position F X w) (position F X w) (le_refl (position F X w))) refl
        go (no e) (yes l) = rw (ne_eqb v w e, lt-ltb (position F X w) (position F X v) l, le-ltb (position F X v) (position F X w) (omega arith)) refl
        go (no e) (no l) =
            let n = moved e in
            rw (ne_eqb v w e, le-ltb (position F X w) (position F X v) (omega arith), lt-ltb (position F X v) (position F X w) (omega (arith, n))) refl

    -- by its magnitude: above zero it rises where that grows, below zero where that shrinks
    pub rises_plus : sign F X w ≡ 0 → (risen F X x mark turn w ≡ true) ↔ (magnitude F X w < magnitude F X v)
    unfolding risen
    rises_plus z =
        stays F X (λ u. (ltb (position F X w) (position F X u) ≡ true) ↔ (magnitude F X w < magnitude F X u)) x r mark turn w
        (λ t. absurd (omega (arith, ltb-true (position F X w) (position F X w) t)), λ l. absurd (omega (arith, l)))
        (λ p f g. (
          λ t. higher_only w v z (g.signed ∙ z) (ltb-true (position F X w) (position F X v) t),
          λ l. lt-ltb (position F X w) (position F X v) (higher w v z (g.signed ∙ z) l),
        ))

    pub rises_minus : sign F X w ≢ 0 → (risen F X x mark turn w ≡ true) ↔ (magnitude F X v < magnitude F X w)
    unfolding risen
    rises_minus z =
        stays F X (λ u. (ltb (position F X w) (position F X u) ≡ true) ↔ (magnitude F X u < magnitude F X w)) x r mark turn w
        (λ t. absurd (omega (arith, ltb-true (position F X w) (position F X w) t)), λ l. absurd (omega (arith, l)))
        (λ p f g. (
          λ t. lower_only v w (λ y. z (sym g.signed ∙ y)) z (ltb-true (position F X w) (position F X v) t),
          λ l. lt-ltb (position F X w) (position F X v) (lower v w (λ y. z (sym g.signed ∙ y)) z f l),
        ))

  -- ---- an array

  module _ (x : Method) (r : Ready x) (mark : ℕ) where
    sums : (turn : ℕ) (ws : List ℕ)
        → count_from F X (changed F X x mark) mark turn ws ≡ count_from F X (risen F X x mark) mark turn ws + count_from F X (fallen F X x mark) mark turn ws
    unfolding count_from
    sums turn [] = refl
    sums turn (w ∷ ws) =
        let one = rose_or_fell x r mark turn w in
        let rest = sums (turn_after F X mark w turn) ws in
        omega (arith, one, rest)

    pub counts_sum : (ws : List ℕ) → (counts F X x mark ws).changed_places ≡ (counts F X x mark ws).risen_places + (counts F X x mark ws).fallen_places
    unfolding counts
    counts_sum ws = sums 0 ws

  -- "Changed equals their sum", of whatever a trim answers
  pub answer_sum : (method : ℕ) (setting : ℤ) (mark : ℕ) (ws : List ℕ) (c : Counts) → (trim F X method setting mark ws).answer ≡ accepted c
      → c.changed_places ≡ c.risen_places + c.fallen_places
  unfolding trim answering
  answer_sum method setting mark ws c = go (trim_questions F X method setting) refl
    where
      go : (o : Outcome Method) → trim_questions F X method setting ≡ o → answering o (λ x. counts F X x mark ws) ≡ accepted c → c.changed_places ≡ c.risen_places + c.fallen_places
      go (refused n) q e = let z : ◌≡◌ {A = ℕ} 0 1 = cc in absurd (omega arith)
      go (accepted x) q e =
          let is : counts F X x mark ws ≡ c = cc in
          subst (λ (d : Counts). d.changed_places ≡ d.risen_places + d.fallen_places) is (counts_sum x (accepted_ready F X method setting x q) mark ws)
