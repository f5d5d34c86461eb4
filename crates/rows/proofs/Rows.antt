-- From a block to its rows: what the passes over the words of the columns leave in each row's bit, and that this is what grooming's turns say.
use mathlib.Core.Path.{◌≡◌, refl, sym, ap, ap₂, ◌∙◌, subst}
use mathlib.Core.Logic.{⊎_elim}
use mathlib.Core.Bool.{Bool, true, false, cond}
use mathlib.Core.List.{List, [], ◌∷◌}
use Prim.Native.Nat.{ℕ, zero, suc, min, ◌+◌, ◌-◌, ◌*◌, ◌%◌, ◌^◌, ◌<◌, ◌≤◌}
use native.Mathlib.Numerals.{add-one}
use native.Mathlib.Decide.{dec_lt, ℕ_discrete}
use native.Mathlib.Omega.{arith}
use borrow.Author.Tests.{eq-eqb, ne_eqb, lt-ltb, le-ltb}
use lib.Bits.{bit_xor, xor_zero_l, xor_zero_r}
use lib.Dec.{eqb, ltb}
use lib.ListN.{length, take, drop, get_or, set, length-set, length-take, length-drop, drop_of_length-le}
use lib.Seq.{take_all, drop-drop, get_or-set_same, get_or-set_other}
use Rattle.parts.proofs.Back.{back, drop_back}
use Rattle.meaning.specs.Readings.{present, missing}
use Rattle.meaning.specs.Methods.{trimmable, turn_after}
use Rattle.reading.specs.Left.{takes}
use Rattle.loops.specs.Walk.{state_at}
use Rattle.loops.specs.Methods.{add_at, Filling, filling_after}
use Rattle.loops.proofs.Turns.{state_next, states_by_turns}
use Rattle.rows.specs.Rows.{row_of, bit_of, fill_at, Counted}
use Rattle.rows.proofs.Bits.{bit_xor_lem, bit_zero, bit_takes, asked}

-- ---- a row

pub row_is : (ws : List ℕ) (a r k : ℕ) → a ≡ min (r * 512) (length ws) → a < length ws → k ≡ min (length ws - a) 512 → take k (drop a ws) ≡ row_of r ws
row_is ws a r k ea h ek = go (dec_lt (length ws - a) 512)
  where
    at : a ≡ r * 512
    at = omega (arith, ea)

    long : length (drop a ws) ≡ length ws - a
    long = length-drop a ws

    go : Dec (length ws - a < 512) → take k (drop a ws) ≡ row_of r ws
    go (yes l) = take_all k (drop a ws) (omega (arith, long, ek)) ∙ sym (take_all 512 (drop a ws) (omega (arith, long))) ∙ ap (λ (n : ℕ). take 512 (drop n ws)) at
    go (no l) = let e : k ≡ 512 = omega (arith, ek) in ap₂ (λ (m n : ℕ). take m (drop n ws)) e at

pub row_length : (ws : List ℕ) (r : ℕ) → length (row_of r ws) ≤ min (length ws) 512
row_length ws r = omega (arith, length-take 512 (drop (r * 512) ws), length-drop (r * 512) ws)

no_row : (ws : List ℕ) (r : ℕ) → length ws ≤ r * 512 → row_of r ws ≡ []
no_row ws r h = ap (take 512) (drop_of_length-le ws h)

-- once a row has come back, the rows after it are as they were
pub rest_same : (xs ws ys : List ℕ) (a k e : ℕ) → a + k ≡ e → length ys ≡ k → a + k ≤ length xs → drop a xs ≡ drop a ws → drop e (back xs a k ys) ≡ drop e ws
rest_same xs ws ys a k e to long l h =
    subst (λ (n : ℕ). drop n (back xs a k ys) ≡ drop n ws) to (drop_back xs a k ys long l ∙ ap (drop k) h ∙ drop-drop k a ws)

-- a reading inside the row, whatever stands for those outside
within : (d e : ℕ) (ws : List ℕ) (c : ℕ) → c < length ws → get_or ws c d ≡ get_or ws c e
within d e [] c h = absurd (omega arith)
within d e (w ∷ ws) zero h = refl
within d e (w ∷ ws) (suc c) h = within d e ws c (omega arith)

-- and outside, by what stands for it
outside : (d : ℕ) (ws : List ℕ) (c : ℕ) → length ws ≤ c → get_or ws c d ≡ d
outside d [] c h = refl
outside d (w ∷ ws) zero h = absurd (omega arith)
outside d (w ∷ ws) (suc c) h = outside d ws c (omega arith)

missing_takes : (F X bit mark : ℕ) → takes F X bit mark mark ≡ 0
unfolding takes trimmable present missing
missing_takes F X bit mark = rw (eq-eqb mark mark refl) refl

-- ---- the pass over one row: the columns before i are done

pub record Marking (F X bit mark : ℕ) (row before turns : List ℕ) (i : ℕ) : Type 0 where
  pub long : length turns ≡ length before
  pub done : (c : ℕ) → c < i → get_or turns c 0 ≡ bit_xor (get_or before c 0) (takes F X bit mark (get_or row c mark))
  pub rest : (c : ℕ) → i ≤ c → get_or turns c 0 ≡ get_or before c 0

module _ {F X bit mark : ℕ} {row before : List ℕ} where
  pub mark_begin : Marking F X bit mark row before before 0
  mark_begin = record { long = refl; done = λ c h. absurd (omega arith); rest = λ c h. refl }

  module _ {turns : List ℕ} {i : ℕ} (inv : Marking F X bit mark row before turns i) where
    pub mark_next : {v : ℕ} → i < length row → i < length before → v ≡ takes F X bit mark (get_or row i 0) → Marking F X bit mark row before (set turns i (bit_xor (get_or turns i 0) v)) (i + 1)
    mark_next {v} h l e =
        record {
          long = length-set turns i (bit_xor (get_or turns i 0) v) ∙ inv.long;
          done = λ c b. go c b (ℕ_discrete c i);
          rest = λ c b. get_or-set_other turns i c (bit_xor (get_or turns i 0) v) 0 (λ z. omega arith) ∙ inv.rest c (omega arith);
        }
      where
        go : (c : ℕ) → c < i + 1 → Dec (c ≡ i) → get_or (set turns i (bit_xor (get_or turns i 0) v)) c 0 ≡ bit_xor (get_or before c 0) (takes F X bit mark (get_or row c mark))
        go c b (yes d) =
            rw d
            (get_or-set_same turns i (bit_xor (get_or turns i 0) v) 0 (omega (arith, inv.long))
            ∙ ap₂ bit_xor (inv.rest i (omega arith)) (e ∙ ap (takes F X bit mark) (within 0 mark row i h)))
        go c b (no d) = get_or-set_other turns i c (bit_xor (get_or turns i 0) v) 0 d ∙ inv.done c (omega arith)

    pub mark_end : length row ≤ i → (c : ℕ) → get_or turns c 0 ≡ bit_xor (get_or before c 0) (takes F X bit mark (get_or row c mark))
    mark_end h c = go (dec_lt c i)
      where
        go : Dec (c < i) → get_or turns c 0 ≡ bit_xor (get_or before c 0) (takes F X bit mark (get_or row c mark))
        go (yes l) = inv.done c l
        go (no l) = inv.rest c (omega arith) ∙ sym (ap (bit_xor (get_or before c 0)) (ap (takes F X bit mark) (outside mark row c (omega arith)) ∙ missing_takes F X bit mark) ∙ xor_zero_r (get_or before c 0))

-- ---- the pass over all rows: those before r have their bits

pub record Marked (F X mark : ℕ) (ws turns : List ℕ) (r : ℕ) : Type 0 where
  pub bits : (q c : ℕ) → bit_of q (get_or turns c 0) ≡ cond (ltb q r) (takes F X 1 mark (get_or (row_of q ws) c mark)) 0

module _ (F X mark : ℕ) (ws : List ℕ) where
  pub rows_begin : {turns : List ℕ} → ((c : ℕ) → get_or turns c 0 ≡ 0) → Marked F X mark ws turns 0
  rows_begin h = record { bits = λ q c. rw (h c, le-ltb q 0 (omega arith)) (bit_zero q) }

  pub rows_next : {turns others : List ℕ} {r : ℕ} → Marked F X mark ws turns r
      → ((c : ℕ) → get_or others c 0 ≡ bit_xor (get_or turns c 0) (takes F X (2 ^ r) mark (get_or (row_of r ws) c mark))) → Marked F X mark ws others (r + 1)
  rows_next {turns} {others} {r} inv h =
      record {
        bits = λ q c.
            ap (bit_of q) (h c) ∙ bit_xor_lem q (get_or turns c 0) (takes F X (2 ^ r) mark (get_or (row_of r ws) c mark))
            ∙ ap₂ bit_xor (inv.bits q c) (bit_takes F X mark (get_or (row_of r ws) c mark) q r) ∙ go q c (dec_lt q r) (ℕ_discrete q r);
      }
    where
      mine : ℕ → ℕ → ℕ
      mine c n = takes F X 1 mark (get_or (row_of n ws) c mark)

      go : (q c : ℕ) → Dec (q < r) → Dec (q ≡ r) → bit_xor (cond (ltb q r) (mine c q) 0) (cond (eqb q r) (mine c r) 0) ≡ cond (ltb q (r + 1)) (mine c q) 0
      go q c (yes l) d = rw (lt-ltb q r l, ne_eqb q r (λ e. omega arith), lt-ltb q (r + 1) (omega arith)) (xor_zero_r (mine c q))
      go q c (no l) (yes e) = rw (le-ltb q r (omega arith), eq-eqb q r e, lt-ltb q (r + 1) (omega arith)) (xor_zero_l (mine c r) ∙ sym (ap (mine c) e))
      go q c (no l) (no d) = rw (le-ltb q r (omega arith), ne_eqb q r d, le-ltb q (r + 1) (omega arith)) refl

  pub rows_end : {turns : List ℕ} {r : ℕ} → Marked F X mark ws turns r → length ws ≤ r * 512 → (q c : ℕ) → bit_of q (get_or turns c 0) ≡ takes F X 1 mark (get_or (row_of q ws) c mark)
  rows_end {turns} {r} inv h q c = inv.bits q c ∙ go (dec_lt q r)
    where
      go : Dec (q < r) → cond (ltb q r) (takes F X 1 mark (get_or (row_of q ws) c mark)) 0 ≡ takes F X 1 mark (get_or (row_of q ws) c mark)
      go (yes l) = rw (lt-ltb q r l) refl
      go (no l) =
          rw (le-ltb q r (omega arith))
          (sym (ap (λ (l : List ℕ). takes F X 1 mark (get_or l c mark)) (no_row ws q (omega arith)) ∙ missing_takes F X 1 mark))

-- ---- the pass that counts: columns before i are done, and s is the state there

pub record Counting (before turns : List ℕ) (s i : ℕ) : Type 0 where
  pub long : length turns ≡ length before
  pub here : s ≡ state_at (λ w s. bit_xor s w) 0 before i
  pub done : (c : ℕ) → c < i → get_or turns c 0 ≡ state_at (λ w s. bit_xor s w) 0 before c
  pub rest : (c : ℕ) → i ≤ c → get_or turns c 0 ≡ get_or before c 0

module _ {before : List ℕ} where
  pub count_begin : Counting before before 0 0
  count_begin = record { long = refl; here = refl; done = λ c h. absurd (omega arith); rest = λ c h. refl }

  module _ {turns : List ℕ} {s i : ℕ} (inv : Counting before turns s i) (l : i < length before) where
    -- the state written down at i
    pub count_done : (c : ℕ) → c < i + 1 → get_or (set turns i s) c 0 ≡ state_at (λ w s. bit_xor s w) 0 before c
    count_done c b = go (ℕ_discrete c i)
      where
        go : Dec (c ≡ i) → get_or (set turns i s) c 0 ≡ state_at (λ w s. bit_xor s w) 0 before c
        go (yes d) = rw d (get_or-set_same turns i s 0 (omega (arith, inv.long)) ∙ inv.here)
        go (no d) = get_or-set_other turns i c s 0 d ∙ inv.done c (omega arith)

    pub count_next : Counting before (set turns i s) (bit_xor s (get_or turns i 0)) (i + 1)
    count_next =
        record {
          long = length-set turns i s ∙ inv.long;
          here = ap₂ bit_xor inv.here (inv.rest i (omega arith)) ∙ sym (ap (state_at (λ w s. bit_xor s w) 0 before) (add-one i) ∙ state_next (λ w s. bit_xor s w) 0 before i l);
          done = count_done;
          rest = λ c b. get_or-set_other turns i c s 0 (λ z. omega arith) ∙ inv.rest c (omega arith);
        }

-- ---- together: a row's bits have its turns

odd_next : (b : Bool) (t : ℕ) → bit_xor (t % 2) (cond b 1 0) ≡ cond b (suc t) t % 2
odd_next false t = xor_zero_r (t % 2)
odd_next true t = go (ℕ_discrete (t % 2) 0)
  where
    go : Dec (t % 2 ≡ 0) → bit_xor (t % 2) 1 ≡ suc t % 2
    go (yes z) = let e : suc t % 2 ≡ 1 = omega arith in rw (z, e) refl
    go (no z) =
        let o : t % 2 ≡ 1 = omega arith in
        let e : suc t % 2 ≡ 0 = omega arith in
        rw (o, e) refl

module _ (F X mark : ℕ) (ws turns : List ℕ) (taken : (q c : ℕ) → bit_of q (get_or turns c 0) ≡ takes F X 1 mark (get_or (row_of q ws) c mark)) (long : length turns ≡ 513) where
  pub counted : (r c : ℕ) → c ≤ length (row_of r ws) → bit_of r (state_at (λ w s. bit_xor s w) 0 turns c) ≡ state_at (turn_after F X mark) 0 (row_of r ws) c % 2
  unfolding takes turn_after
  counted r zero h = bit_zero r
  counted r (suc c) h =
      let row = row_of r ws in
      let few : length row ≤ 512 = omega (arith, row_length ws r) in
      let t = state_at (turn_after F X mark) 0 row c in
      ap (bit_of r) (state_next (λ w s. bit_xor s w) 0 turns c (omega arith))
      ∙ bit_xor_lem r (state_at (λ w s. bit_xor s w) 0 turns c) (get_or turns c 0)
      ∙ ap₂ bit_xor (counted r c (omega arith)) (taken r c ∙ ap (takes F X 1 mark) (within mark 0 row c h))
      ∙ odd_next (trimmable F X mark (get_or row c 0)) t
      ∙ sym (ap (λ (n : ℕ). n % 2) (state_next (turn_after F X mark) 0 row c h))

-- ---- and so each tail gets what its turn says

module _ (F X mark : ℕ) (ws turns : List ℕ) (h : Counted F X mark ws turns) (ones first : ℕ) (l : Filling ones first) where
  fits : first ≤ ones
  fits = ⊎_elim (λ e. omega arith) (λ e. omega arith) l

  filled_row : (r want c : ℕ) → want ≡ cond (eqb first 0) 0 (2 ^ r) → c ≤ length (row_of r ws) → fill_at turns (2 ^ r) want ones c ≡ state_at (filling_after F X ones mark) first (row_of r ws) c
  unfolding fill_at add_at
  filled_row r want c e k =
      let t = state_at (turn_after F X mark) 0 (row_of r ws) c in
      let d : t % 2 % 2 ≡ t % 2 = omega arith in
      asked r (get_or turns c 0) ones first want l e
      ∙ ap (λ (n : ℕ). cond (eqb (n % 2) 0) first (ones - first)) (h r c k)
      ∙ ap (λ (n : ℕ). cond (eqb n 0) first (ones - first)) d
      ∙ sym (states_by_turns F X mark ones first (ones - first) 0 (omega (arith, fits)) (row_of r ws) c)

  pub filled : (r : ℕ) {bit want : ℕ} {row : List ℕ} → bit ≡ 2 ^ r → want ≡ cond (eqb first 0) 0 bit → row ≡ row_of r ws → (c : ℕ) → c ≤ length row
      → fill_at turns bit want ones c ≡ state_at (filling_after F X ones mark) first row c
  filled r {bit} {want} {row} eb ew er c k = rw (eb, er) (filled_row r want c (rw eb at ew) (rw er at k))
