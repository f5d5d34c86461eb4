-- The planes trimmed block by block are the planes of the trimmed array: the first a readings are trimmed, their planes stand in the buffer, and the rest is as it was. For every
-- number of bytes and both widths.
use mathlib.Core.Path.{◌≡◌, refl, sym, ap, ap₂, ◌∙◌, subst}
use mathlib.Core.Bool.{Bool, true, false}
use mathlib.Core.List.{List, [], ◌++◌}
use Prim.Native.Nat.{ℕ, ◌+◌, ◌-◌, ◌*◌, ◌≤◌}
use native.Mathlib.Nat.{mul_comm, zero-add}
use native.Mathlib.Decide.{ℕ_discrete}
use native.Mathlib.Omega.{arith}
use lib.Dec.{eqb}
use lib.ListN.{length}
use lib.Seq.{take_all}
use Rattle.meaning.specs.Methods.{turn_after}
use Rattle.meaning.specs.Planes.{planes, readings}
use Rattle.meaning.proofs.Planes.{readings_length}
use Rattle.asking.specs.Asked.{method_by}
use Rattle.reading.specs.Left.{Tally, Settled, settled_by, settled_tail}
use Rattle.reading.specs.Tails.{Constants}
use Rattle.loops.specs.Tallies.{none, plus, Few}
use Rattle.loops.specs.Walk.{state_at, walked_by, tallied_by}
use Rattle.loops.specs.Methods.{Suits, Filling, settled_if, settled_with, next_with}
use Rattle.loops.proofs.Tallies.{one_by, one_tail, few_none, few_plus}
use Rattle.loops.proofs.Walks.{state_append, walked_append, tallied_append, walked_length, few_tallied}
use Rattle.loops.proofs.Turns.{states_two}
use Rattle.loops.proofs.Methods.{suits_keep, groom_state, other_state, whole_walked, whole_tallied}
use Rattle.array_planes.specs.Places.{stored, fetched, Room}
use Rattle.array_planes.proofs.Blocks.{none_stored}
use Rattle.array_planes.proofs.Places.{stored_length, stored_append, stored_whole, fetched_length, fetched_append, fetched_stored, fetched_whole}

-- qs is the buffer ps with the first a readings trimmed, t what they count for, and s the state that the next one gets
pub record Trimming (next : ℕ → ℕ → ℕ) (f : ℕ → ℕ → Settled) (B n : ℕ) (ps qs : List ℕ) (t : Tally) (s a : ℕ) : Type 0 where
  pub within : a ≤ n
  pub long : length qs ≡ n * B
  pub few : Few t a
  pub state : s ≡ state_at next 0 (fetched B n 0 a ps) (length (fetched B n 0 a ps))
  pub sums : t ≡ tallied_by next f 0 (fetched B n 0 a ps)
  pub left : qs ≡ stored B n 0 a (walked_by next f 0 (fetched B n 0 a ps)) ps

module _ (next : ℕ → ℕ → ℕ) (f : ℕ → ℕ → Settled) (B n : ℕ) (ps : List ℕ) (whole : length ps ≡ n * B) (ones : (s w : ℕ) → Few (f s w).tally 1) where
  -- the first a readings of n have room
  room : (a k : ℕ) → a + k ≤ n → Room B n a k (length ps)
  room a k h = omega (arith, whole, mul_comm n B)

  nothing : fetched B n 0 0 ps ≡ []
  nothing = sym (take_all 0 (fetched B n 0 0 ps) (omega (arith, fetched_length B n 0 0 ps (room 0 0 (omega arith)))))

  pub begin : {t : Tally} → t ≡ none → Trimming next f B n ps ps t 0 0
  begin {t} e =
      record {
        within = omega arith;
        long = whole;
        few = subst (λ (r : Tally). Few r 0) (sym e) few_none;
        state = rw nothing refl;
        sums = rw nothing e;
        left = rw nothing (sym (none_stored B n 0 ps));
      }

  module _ {qs : List ℕ} {t : Tally} {s a : ℕ} (inv : Trimming next f B n ps qs t s a) (k : ℕ) (fits : a + k ≤ n) where
    abbrev us : List ℕ
    us = fetched B n 0 a ps

    abbrev vs : List ℕ
    vs = fetched B n a k ps

    us_long : length us ≡ a
    us_long = fetched_length B n 0 a ps (room 0 a (omega arith))

    -- the block still holds what it did at the start
    same : fetched B n a k qs ≡ vs
    same =
        ap (fetched B n a k) inv.left
        ∙ fetched_stored B n 0 a (walked_by next f 0 us) ps a k (walked_length next f 0 us ∙ us_long) (omega arith) (omega arith) (room 0 a (omega arith))

    joined : fetched B n 0 (a + k) ps ≡ us ++ vs
    joined = fetched_append B n 0 a k ps (room 0 (a + k) (omega arith)) ∙ ap (λ (b : ℕ). us ++ fetched B n b k ps) (zero-add a)

    pub block_room : Room B n a k (length qs)
    block_room = omega (arith, inv.long, mul_comm n B)

    pub few_block : {r : Tally} → r ≡ tallied_by next f s (fetched B n a k qs) → Few (plus t r) (a + k)
    few_block {r} e =
        let l : length (fetched B n a k qs) ≡ k = fetched_length B n a k qs block_room in
        few_plus t r a k inv.few (subst (λ (m : ℕ). Few r m) l (subst (λ (y : Tally). Few y (length (fetched B n a k qs))) (sym e) (few_tallied next f ones s (fetched B n a k qs))))

    pub turn : {rs : List ℕ} {r u : Tally} {v : ℕ} → r ≡ tallied_by next f s (fetched B n a k qs) → u ≡ plus t r → v ≡ state_at next s (fetched B n a k qs) (length (fetched B n a k qs))
        → rs ≡ stored B n a k (walked_by next f s (fetched B n a k qs)) qs → Trimming next f B n ps rs u v (a + k)
    turn {rs} {r} {u} {v} er eu ev es =
        let vl : length vs ≡ k = fetched_length B n a k ps (room a k fits) in
        let w : walked_by next f 0 (us ++ vs) ≡ walked_by next f 0 us ++ walked_by next f s vs = walked_append next f 0 us vs ∙ ap (λ (y : ℕ). walked_by next f 0 us ++ walked_by next f y vs) (sym inv.state) in
        let wl : length (walked_by next f s (fetched B n a k qs)) ≡ k = walked_length next f s (fetched B n a k qs) ∙ ap length same ∙ vl in
        record {
          within = fits;
          long = ap length es ∙ stored_length B n a k (walked_by next f s (fetched B n a k qs)) qs wl block_room ∙ inv.long;
          few = subst (λ (y : Tally). Few y (a + k)) (sym eu) (few_block er);
          state =
              ev ∙ ap (λ (l : List ℕ). state_at next s l (length l)) same ∙ ap (λ (y : ℕ). state_at next y vs (length vs)) inv.state
              ∙ sym (ap (λ (l : List ℕ). state_at next 0 l (length l)) joined ∙ state_append next 0 us vs);
          sums =
              eu ∙ ap₂ plus inv.sums (er ∙ ap (tallied_by next f s) same ∙ ap (λ (y : ℕ). tallied_by next f y vs) inv.state)
              ∙ sym (ap (tallied_by next f 0) joined ∙ tallied_append next f 0 us vs);
          left =
              es ∙ ap₂ (λ (l p : List ℕ). stored B n a k (walked_by next f s l) p) same inv.left
              ∙ ap (λ (b : ℕ). stored B n b k (walked_by next f s vs) (stored B n 0 a (walked_by next f 0 us) ps)) (sym (zero-add a))
              ∙ sym (stored_append B n 0 a k (walked_by next f 0 us) (walked_by next f s vs) ps (walked_length next f 0 us ∙ us_long) (walked_length next f s vs ∙ vl) fits (room 0 (a + k) (omega arith)))
              ∙ ap (λ (l : List ℕ). stored B n 0 (a + k) l ps) (sym (ap (walked_by next f 0) joined ∙ w));
        }

  pub end : {qs : List ℕ} {t : Tally} {s a : ℕ} → Trimming next f B n ps qs t s a → n ≤ a → (t ≡ tallied_by next f 0 (readings B n ps)) × (qs ≡ planes B (walked_by next f 0 (readings B n ps)))
  end {qs} {t} {s} {a} inv h =
      let w = inv.within in
      let e : a ≡ n = omega arith in
      let r : fetched B n 0 a ps ≡ readings B n ps = ap (λ (k : ℕ). fetched B n 0 k ps) e ∙ fetched_whole B n 0 ps in (
        inv.sums ∙ ap (tallied_by next f 0) r,
        inv.left ∙ ap₂ (λ (k : ℕ) (l : List ℕ). stored B n 0 k (walked_by next f 0 l) ps) e r
            ∙ stored_whole B n 0 (walked_by next f 0 (readings B n ps)) ps (walked_length next f 0 (readings B n ps) ∙ readings_length B n ps whole) (omega (arith, whole, mul_comm n B)),
      )

-- ---- one block: read, walked and written back

module _ (next : ℕ → ℕ → ℕ) (f : ℕ → ℕ → Settled) (B n a k s : ℕ) (ps : List ℕ) (fits : Room B n a k (length ps)) where
  pub block_done : {xs ys qs : List ℕ} {t : Tally} {v : ℕ} → xs ≡ fetched B n a k ps → t ≡ tallied_by next f s xs → v ≡ state_at next s xs (length xs) → ys ≡ walked_by next f s xs
      → qs ≡ stored B n a (length ys) ys ps
      → (t ≡ tallied_by next f s (fetched B n a k ps))
      × ((v ≡ state_at next s (fetched B n a k ps) (length (fetched B n a k ps))) × (qs ≡ stored B n a k (walked_by next f s (fetched B n a k ps)) ps))
  block_done {xs} {ys} {qs} {t} {v} ex et ev ey eq =
      let y : ys ≡ walked_by next f s (fetched B n a k ps) = ey ∙ ap (walked_by next f s) ex in
      let l : length ys ≡ k = ap length y ∙ walked_length next f s (fetched B n a k ps) ∙ fetched_length B n a k ps fits in (
        et ∙ ap (tallied_by next f s) ex,
        (ev ∙ ap (λ (l : List ℕ). state_at next s l (length l)) ex, eq ∙ ap₂ (λ (j : ℕ) (l : List ℕ). stored B n a j l ps) l y),
      )

-- ---- the methods' walks

module _ (F X method n mark : ℕ) where
  pub one_with : (s w : ℕ) → Few (settled_with F X method n mark s w).tally 1
  unfolding settled_with
  one_with s w = go (eqb method 2)
    where
      go : (b : Bool) → Few (settled_if b (settled_tail F X (F - n) s mark w) (settled_by F X (method_by method n) mark 0 w)).tally 1
      go true = one_tail F X (F - n) s mark w
      go false = one_by F X (method_by method n) mark 0 w

  -- what grooming puts into the next tail is nothing or all ones
  pub filling_block : {most s v : ℕ} {c : Constants} (ws : List ℕ) → Suits F most method n c → Filling c.ones s → v ≡ state_at (next_with F X method n mark) s ws (length ws) → Filling c.ones v
  filling_block {most} {s} {v} {c} ws suits h e = go (ℕ_discrete method 2)
    where
      go : Dec (method ≡ 2) → Filling c.ones v
      go (yes two) =
          let l : method ≤ 4 = omega arith in
          subst (Filling c.ones) (sym (e ∙ sym (groom_state F X method n mark two c (suits_keep suits l) s ws))) (states_two F X mark c.ones s h ws (length ws))
      go (no other) = subst (Filling c.ones) (sym (e ∙ sym (other_state F X method n mark other s ws))) h

-- the walk from the first turn on is the method's
pub by_method : (F X B n mark : ℕ) (ps : List ℕ) {method number m k : ℕ} {t : Tally} {qs : List ℕ} → m ≡ method → k ≡ number
    → (t ≡ tallied_by (next_with F X m k mark) (settled_with F X m k mark) 0 (readings B n ps)) × (qs ≡ planes B (walked_by (next_with F X m k mark) (settled_with F X m k mark) 0 (readings B n ps)))
    → (t ≡ tallied_by (turn_after F X mark) (settled_by F X (method_by method number) mark) 0 (readings B n ps))
    × (qs ≡ planes B (walked_by (turn_after F X mark) (settled_by F X (method_by method number) mark) 0 (readings B n ps)))
by_method F X B n mark ps {method} {number} {m} {k} {t} {qs} em ek r =
    let ws = readings B n ps in (
      r.0 ∙ whole_tallied F X m k mark ws ∙ ap₂ (λ (i j : ℕ). tallied_by (turn_after F X mark) (settled_by F X (method_by i j) mark) 0 ws) em ek,
      r.1 ∙ ap (planes B) (whole_walked F X m k mark ws ∙ ap₂ (λ (i j : ℕ). walked_by (turn_after F X mark) (settled_by F X (method_by i j) mark) 0 ws) em ek),
    )
