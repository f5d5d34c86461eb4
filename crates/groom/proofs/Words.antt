-- The rows' laws for slices of words, which `value` reads as numbers.
use Rattle.std.proofs.Common.{◌≡◌, ℕ, zero, suc, ◌+◌, ◌-◌, ◌*◌, ◌<◌, ◌≤◌, List, length, take, drop, get_or, sym, ap, ◌∙◌, refl, arith}
use Prim.Native.Nat.{min}
use mathlib.Core.Path.{subst}
use mathlib.Core.List.{map, [], ◌∷◌, ◌++◌}
use mathlib.Core.Bool.{cond}
use lib.Bits.{bit_and, bit_xor}
use lib.Dec.{eqb}
use native.Mathlib.Decide.{dec_lt, ℕ_discrete}
use lib.ListN.{set, replicate, length-append, length-drop, drop_of_length-le, get_or-append}
use lib.Seq.{take_at, drop_at, drop-drop, length-take-le, get_or-set_same, get_or-set_other}
use Rattle.std.proofs.lemmas.List.{map-append, map-set, get_or-map, length-map, take-map, drop-map}
use Rattle.reading.specs.Left.{Tally, Settled, takes}
use Rattle.loops.specs.Walk.{state_at}
use Rattle.parts.proofs.Back.{back, map_back}
use Rattle.loops.proofs.Walks.{Walk}
use Rattle.rows.specs.Rows.{row_of, fill_at}
use Rattle.rows.proofs.Rows.{Marking, mark_next, Counting, count_next, row_is, rest_same}

-- a walk at the same place
pub walk_at : {next : ℕ → ℕ → ℕ} {f : ℕ → ℕ → Settled} {first : ℕ} {all xs : List ℕ} {t : Tally} {s i j : ℕ} → i ≡ j → Walk next f first all xs t s i → Walk next f first all xs t s j
walk_at {next} {f} {first} {all} {xs} {t} {s} e inv = subst (λ (k : ℕ). Walk next f first all xs t s k) e inv

-- the state after the first k readings, of the first n alone
state_take : (next : ℕ → ℕ → ℕ) (s : ℕ) (ws : List ℕ) (n k : ℕ) → k ≤ n → state_at next s (take n ws) k ≡ state_at next s ws k
state_take next s ws n zero h = refl
state_take next s ws zero (suc k) h = absurd (omega arith)
state_take next s [] (suc n) (suc k) h = refl
state_take next s (w ∷ ws) (suc n) (suc k) h = state_take next (next w s) ws n k (omega arith)

module _ {W : Type 0} (value : W → ℕ) where
  -- one column more is marked
  pub mark_next_at : {F X bit mark : ℕ} (row : List W) {before : List ℕ} (turns : List W) {i : ℕ} (d e : W)
      → Marking F X bit mark (map value row) before (map value turns) i → i < length row → i < length before → i < length turns → {v w : W}
      → value w ≡ bit_xor (value (get_or turns i d)) (value v) → value v ≡ takes F X bit mark (value (get_or row i e))
      → Marking F X bit mark (map value row) before (map value (set turns i w)) (i + 1)
  mark_next_at {F} {X} {bit} {mark} row {before} turns {i} d e inv h l k {v} {w} ew ev =
      subst (λ (ws : List ℕ). Marking F X bit mark (map value row) before ws (i + 1))
      (sym (map-set value turns i w ∙ ap (set (map value turns) i) (ew ∙ ap (λ (n : ℕ). bit_xor n (value v)) (sym (get_or-map value turns i d 0 k)))))
      (mark_next inv (rw length-map h) l (ev ∙ ap (takes F X bit mark) (sym (get_or-map value row i e 0 h))))

  -- one column more is counted
  pub count_next_at : {before : List ℕ} (turns : List W) {odd : W} {i : ℕ} (d : W) → Counting before (map value turns) (value odd) i → i < length before → i < length turns → {w : W}
      → value w ≡ bit_xor (value odd) (value (get_or turns i d)) → Counting before (map value (set turns i odd)) (value w) (i + 1)
  count_next_at {before} turns {odd} {i} d inv l k {w} e =
      subst (λ (ws : List ℕ). Counting before ws (value w) (i + 1)) (sym (map-set value turns i odd))
      (subst (λ (s : ℕ). Counting before (set (map value turns) i (value odd)) s (i + 1)) (sym (e ∙ ap (bit_xor (value odd)) (sym (get_or-map value turns i d 0 k)))) (count_next inv l))

  -- and once all n are, and the state after them is written down behind them, each column has its own
  pub counted_all : (turns items : List W) {n i : ℕ} {odd : W} → Counting (map value (take n turns)) (map value items) (value odd) i → i ≡ n → n < length turns
      → (c : ℕ) → c ≤ n → get_or (map value (set (items ++ drop n turns) n odd)) c 0 ≡ state_at (λ w s. bit_xor s w) 0 (map value turns) c
  counted_all turns items {n} {i} {odd} inv e l c h =
      ap (λ (ws : List ℕ). get_or ws c 0) (map-set value (items ++ drop n turns) n odd ∙ ap (λ (ws : List ℕ). set ws n (value odd)) (map-append value items (drop n turns)))
      ∙ go (ℕ_discrete c n)
    where
      long : length (map value items) ≡ n
      long = inv.long ∙ length-map (take n turns) value ∙ length-take-le n turns (omega arith)

      told : (k : ℕ) → k ≤ n → state_at (λ w s. bit_xor s w) 0 (map value (take n turns)) k ≡ state_at (λ w s. bit_xor s w) 0 (map value turns) k
      told k b = ap (λ (ws : List ℕ). state_at (λ w s. bit_xor s w) 0 ws k) (sym (take-map value n turns)) ∙ state_take (λ w s. bit_xor s w) 0 (map value turns) n k b

      go : Dec (c ≡ n) → get_or (set (map value items ++ map value (drop n turns)) n (value odd)) c 0 ≡ state_at (λ w s. bit_xor s w) 0 (map value turns) c
      go (yes d) =
          rw d
          (get_or-set_same (map value items ++ map value (drop n turns)) n (value odd) 0
          (simp (length-append, length-map, length-drop) (omega (arith, long, length-map items value)))
          ∙ inv.here ∙ ap (state_at (λ w s. bit_xor s w) 0 (map value (take n turns))) e ∙ told n (omega arith))
      go (no d) =
          get_or-set_other (map value items ++ map value (drop n turns)) n c (value odd) 0 d
          ∙ get_or-append (map value items) (map value (drop n turns)) 0 c (omega (arith, long)) ∙ inv.done c (omega arith) ∙ told c h

  -- what a column's word asks for
  pub fill_is : (turns : List W) (bit want ones c : ℕ) (d : W) → c < length turns → cond (eqb (bit_and (value (get_or turns c d)) bit) want) 0 ones ≡ fill_at (map value turns) bit want ones c
  unfolding fill_at
  fill_is turns bit want ones c d h = ap (λ (t : ℕ). cond (eqb (bit_and t bit) want) 0 ones) (sym (get_or-map value turns c d 0 h))

  pub all_zero : (n : ℕ) {z : W} → value z ≡ 0 → (c : ℕ) → get_or (map value (replicate n z)) c 0 ≡ 0
  all_zero zero e c = refl
  all_zero (suc n) e zero = e
  all_zero (suc n) e (suc c) = all_zero n e c

  -- row r of a block whose rows from it on are as they were
  pub row_is_at : (block whole : List W) (a r k : ℕ) → a ≡ r * 512 → drop a (map value block) ≡ drop a (map value whole) → a < length whole → k ≡ min (length whole - a) 512
      → map value (take k (drop a block)) ≡ row_of r (map value whole)
  row_is_at block whole a r k ea same h ek =
      let long : length (map value whole) ≡ length whole = length-map whole value in
      sym (ap (take k) (drop-map value a block) ∙ take-map value k (drop a block))
      ∙ ap (take k) same
      ∙ row_is (map value whole) a r k (omega (arith, ea, h, long)) (omega (arith, h, long)) (omega (arith, ek, long))

  -- and once that row has come back, so are those after it
  pub rest_same_at : (block whole ys : List W) (a k e : ℕ) → a + k ≡ e → length ys ≡ k → a + k ≤ length block → drop a (map value block) ≡ drop a (map value whole)
      → drop e (map value (back block a k ys)) ≡ drop e (map value whole)
  rest_same_at block whole ys a k e to long l h =
      ap (drop e) (map_back value block a k ys)
      ∙ rest_same (map value block) (map value whole) (map value ys) a k e to (length-map ys value ∙ long) (rw length-map l) h

  -- the row that comes next as a chunk of a block, and what is left of the block after it
  module _ (block : List W) (r : ℕ) (rest x next : List W) (at : rest ≡ drop (r * 512) block) (parts : rest ≡ x ++ next) (long : length x ≡ min 512 (length rest)) (some : 0 < length rest) where
    left : length rest ≡ length block - r * 512
    left = ap length at ∙ length-drop (r * 512) block

    pub chunk_is : map value x ≡ row_of r (map value block)
    chunk_is =
        sym (ap (map value) (ap (take (length x)) (sym at ∙ parts) ∙ take_at x next (length x) refl))
        ∙ row_is_at block block (r * 512) r (length x) refl refl (omega (arith, left, some)) (omega (arith, left, long))

    pub chunk_next : next ≡ drop ((r + 1) * 512) block
    chunk_next = sym (drop_at x next (length x) refl) ∙ ap (drop (length x)) (sym parts ∙ at) ∙ drop-drop (length x) (r * 512) block ∙ go (dec_lt (length rest) 512)
      where
        go : Dec (length rest < 512) → drop (r * 512 + length x) block ≡ drop ((r + 1) * 512) block
        go (yes l) = drop_of_length-le block (omega (arith, left, long)) ∙ sym (drop_of_length-le block (omega (arith, left, long)))
        go (no l) = ap (λ (n : ℕ). drop n block) {x = r * 512 + length x} {y = (r + 1) * 512} (omega (arith, long))
