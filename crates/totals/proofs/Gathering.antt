-- The loops over a layer's codes. Four places on, each lane has one code more, and past the end the missing code adds nothing: one law for every turn.
use mathlib.Core.Path.{◌≡◌, refl, sym, ap, ◌∙◌}
use mathlib.Core.Bool.{Bool, true, false, cond}
use mathlib.Core.List.{List, [], ◌∷◌}
use Prim.Native.Nat.{ℕ, suc, ◌+◌, ◌-◌, ◌*◌, ◌%◌, ◌≤◌, ◌<◌, zero-le}
use native.Mathlib.Nat.{mul-suc, sub-zero}
use native.Mathlib.Numerals.{add-one}
use native.Mathlib.Decide.{dec_lt, ℕ_discrete}
use native.Mathlib.Omega.{arith}
use borrow.Author.Tests.{eq-eqb, ne_eqb, lt-ltb, le-ltb}
use lib.Dec.{eqb}
use lib.ListN.{length, get_or, take, drop, length-drop, take-append-drop, drop_of_length-le}
use lib.Seq.{drop-cons, take_all}
use Rattle.meaning.specs.Totals.{in_order_sum, if_present, lane_from, lane}
use Rattle.meaning.proofs.Totals.{in_order_append}
use Rattle.totals.specs.declared.Lanes.{Lanes}
use Rattle.totals.specs.Gathered.{value_at, Room, added, added_at, Gathered}

-- ---- what is counted and summed

pub summed_missing : (m : ℕ) → if_present m m ≡ 0
unfolding if_present
summed_missing m = rw (eq-eqb m m refl) refl

pub summed_most : (m c : ℕ) → if_present m c ≤ c
unfolding if_present
summed_most m c = go (ℕ_discrete c m)
  where
    go : Dec (c ≡ m) → if_present m c ≤ c
    go (yes e) = rw (eq-eqb c m e) zero-le
    go (no e) = rw (ne_eqb c m e) (omega arith)

-- a sum in order: what is done before place i, and what is left
abbrev pub Left : (ℕ → ℕ) → List ℕ → ℕ → ℕ → Type 0
Left f cs done i = done + in_order_sum f (drop i cs) ≡ in_order_sum f cs

pub left_start : (f : ℕ → ℕ) (cs : List ℕ) → Left f cs 0 0
left_start f cs = omega arith

pub left_turn : (f : ℕ → ℕ) (cs : List ℕ) (done i : ℕ) → i < length cs → Left f cs done i → Left f cs (done + f (get_or cs i 0)) (i + 1)
unfolding in_order_sum
left_turn f cs done i h inv = rw add-one (omega (arith, rw (drop-cons cs i 0 h) at inv))

pub left_end : (f : ℕ → ℕ) (cs : List ℕ) (done i : ℕ) → length cs ≤ i → Left f cs done i → done ≡ in_order_sum f cs
unfolding in_order_sum
left_end f cs done i h inv = omega (arith, rw (drop_of_length-le cs h) at inv)

-- the codes up to place h, and from there on
pub halves : (f : ℕ → ℕ) (cs : List ℕ) (h : ℕ) → in_order_sum f (take (h - 0) (drop 0 cs)) + in_order_sum f (take (length cs - h) (drop h cs)) ≡ in_order_sum f cs
halves f cs h =
    rw (sub-zero h, take_all (length cs - h) (drop h cs) (simp length-drop (omega arith)))
    (sym (in_order_append f (take h cs) (drop h cs)) ∙ ap (in_order_sum f) (take-append-drop h cs))

-- the sum of a layer fits in 32 bits
pub sum_most : (f : ℕ → ℕ) (cs : List ℕ) → ((i : ℕ) → f (get_or cs i 0) ≤ 65535) → in_order_sum f cs ≤ 65535 * length cs
unfolding in_order_sum
sum_most f [] h = zero-le
sum_most f (c ∷ cs) h =
    let first : f c ≤ 65535 = h 0 in
    let rest = sum_most f cs (λ i. h (suc i)) in
    rw (mul-suc 65535 (length cs)) (omega arith)

-- ---- four lanes

module _ (m : ℕ) (cs : List ℕ) where
  abbrev f : ℕ → ℕ
  f = if_present m

  -- one place, there or past the end
  one_place : (k i : ℕ) → lane_from f k i (drop i cs) ≡ cond (eqb (i % 4) k) (f (value_at m cs i)) 0 + lane_from f k (suc i) (drop (suc i) cs)
  unfolding lane_from
  one_place k i = go (dec_lt i (length cs))
    where
      nothing : (b : Bool) → cond {A = ℕ} b 0 0 ≡ 0
      nothing true = refl
      nothing false = refl

      go : Dec (i < length cs) → lane_from f k i (drop i cs) ≡ cond (eqb (i % 4) k) (f (value_at m cs i)) 0 + lane_from f k (suc i) (drop (suc i) cs)
      go (yes h) = rw (lt-ltb i (length cs) h, drop-cons cs i 0 h) refl
      go (no h) =
          rw (le-ltb i (length cs) (omega arith), summed_missing m, drop_of_length-le cs {i = i} (omega arith), drop_of_length-le cs {i = suc i} (omega arith))
          (sym (ap (λ (n : ℕ). n + 0) (nothing (eqb (i % 4) k))))

  -- four places from a multiple of four on
  four_places : (k i : ℕ) → i % 4 ≡ 0
      → lane_from f k i (drop i cs)
      ≡ cond (eqb 0 k) (f (value_at m cs i)) 0 + cond (eqb 1 k) (f (value_at m cs (i + 1))) 0 + cond (eqb 2 k) (f (value_at m cs (i + 2))) 0 + cond (eqb 3 k) (f (value_at m cs (i + 3))) 0
      + lane_from f k (i + 4) (drop (i + 4) cs)
  four_places k i e =
      let a = at i 0 e in
      let b = at (i + 1) 1 (omega arith) in
      let c = at (i + 2) 2 (omega arith) in
      let d = at (i + 3) 3 (omega arith) in
      omega (arith, a, next (suc i) (i + 1) (omega arith), b, next (suc (i + 1)) (i + 2) (omega arith), c, next (suc (i + 2)) (i + 3) (omega arith), d, next (suc (i + 3)) (i + 4) (omega arith))
    where
      at : (j r : ℕ) → j % 4 ≡ r → lane_from f k j (drop j cs) ≡ cond (eqb r k) (f (value_at m cs j)) 0 + lane_from f k (suc j) (drop (suc j) cs)
      at j r q = one_place k j ∙ ap (λ (x : ℕ). cond (eqb x k) (f (value_at m cs j)) 0 + lane_from f k (suc j) (drop (suc j) cs)) q

      next : (x y : ℕ) → x ≡ y → lane_from f k x (drop x cs) ≡ lane_from f k y (drop y cs)
      next x y q = ap (λ (z : ℕ). lane_from f k z (drop z cs)) q

  -- what the lanes have before place i, and what is left for them
  pub record Turn (i : ℕ) (l : Lanes) : Type 0 where
    pub fourth : i % 4 ≡ 0
    pub a : l.a + lane_from (if_present m) 0 i (drop i cs) ≡ lane (if_present m) 0 cs
    pub b : l.b + lane_from (if_present m) 1 i (drop i cs) ≡ lane (if_present m) 1 cs
    pub c : l.c + lane_from (if_present m) 2 i (drop i cs) ≡ lane (if_present m) 2 cs
    pub d : l.d + lane_from (if_present m) 3 i (drop i cs) ≡ lane (if_present m) 3 cs
    pub few_a : 4 * l.a ≤ 65535 * i
    pub few_b : 4 * l.b ≤ 65535 * i
    pub few_c : 4 * l.c ≤ 65535 * i
    pub few_d : 4 * l.d ≤ 65535 * i

  pub start : (l : Lanes) → l.a ≡ 0 → l.b ≡ 0 → l.c ≡ 0 → l.d ≡ 0 → Turn 0 l
  start l a b c d =
      record { fourth = refl; a = omega arith; b = omega arith; c = omega arith; d = omega arith; few_a = omega arith; few_b = omega arith; few_c = omega arith; few_d = omega arith }

  pub room : (i : ℕ) (l : Lanes) → i ≤ 65544 → Turn i l → Room l
  room i l h t = record { a = omega (arith, t.few_a); b = omega (arith, t.few_b); c = omega (arith, t.few_c); d = omega (arith, t.few_d) }

  module _ (mark-small : m < 65536) (small : (i : ℕ) → get_or cs i 0 < 65536) where
    few : (i : ℕ) → if_present m (value_at m cs i) ≤ 65535
    few i = go (dec_lt i (length cs))
      where
        go : Dec (i < length cs) → if_present m (value_at m cs i) ≤ 65535
        go (yes h) = rw (lt-ltb i (length cs) h) (omega (arith, summed_most m (get_or cs i 0), small i))
        go (no h) = rw (le-ltb i (length cs) (omega arith)) (omega (arith, summed_most m m))

    pub turn : (i : ℕ) (l : Lanes) → Turn i l → Turn (i + 4) (added_at m l cs i)
    unfolding added
    turn i l t =
        record {
          fourth = omega (arith, t.fourth);
          a = omega (arith, t.a, four_places 0 i t.fourth);
          b = omega (arith, t.b, four_places 1 i t.fourth);
          c = omega (arith, t.c, four_places 2 i t.fourth);
          d = omega (arith, t.d, four_places 3 i t.fourth);
          few_a = omega (arith, t.few_a, few i);
          few_b = omega (arith, t.few_b, few (i + 1));
          few_c = omega (arith, t.few_c, few (i + 2));
          few_d = omega (arith, t.few_d, few (i + 3));
        }

    pub turned : (i : ℕ) (l next : Lanes) → next ≡ added_at m l cs i → Turn i l → Turn (i + 4) next
    turned i l next e t = rw e (turn i l t)

  none_left : (k i : ℕ) → length cs ≤ i → lane_from (if_present m) k i (drop i cs) ≡ 0
  unfolding lane_from
  none_left k i h = rw (drop_of_length-le cs h) refl

  pub end : (i : ℕ) (l : Lanes) → length cs ≤ i → Turn i l → Gathered (if_present m) cs l
  end i l h t =
      record {
        a = omega (arith, t.a, none_left 0 i h);
        b = omega (arith, t.b, none_left 1 i h);
        c = omega (arith, t.c, none_left 2 i h);
        d = omega (arith, t.d, none_left 3 i h);
      }
