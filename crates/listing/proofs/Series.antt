-- The loop that trims the series in the work area one after another, over plain lists.
use Prim.Native.Nat.{ℕ, zero, suc, ◌+◌, ◌-◌, ◌*◌, ◌≤◌, ◌<◌}
use native.Mathlib.Omega.{arith}
use native.Mathlib.Nat.{zero-add, sub-zero, not-suc-le-zero}
use native.Mathlib.Numerals.{add-one}
use mathlib.Core.Path.{◌≡◌, refl, sym, ap, ◌∙◌, subst}
use mathlib.Core.Bool.{Bool, true, false, cond}
use mathlib.Core.List.{List, [], ◌∷◌, ◌++◌, map, append_assoc, append-nil}
use lib.IntN.{ℤ}
use lib.Dec.{eqb}
use borrow.Author.Tests.{eqb-true, eqb-false}
use lib.ListN.{length, take, drop, length-append, length-take}
use Rattle.meaning.specs.Methods.{Method, Counts, turn_after, count_from, counts}
use Rattle.meaning.specs.Questions.{Outcome, refused, accepted, trim_questions}
use Rattle.meaning.specs.Calls.{AfterTrim, answering, leaving, trim, trim_singles}
use Rattle.form.specs.Output.{up_to, counts_in_order, counts_line, counts_lines}
use Rattle.parts.proofs.Back.{back, length_back, back_own, back_before, back_after}
use Rattle.text_in.specs.Places.{area_series}
use Rattle.text_out.specs.Places.{paste}
use Rattle.text_out.proofs.Paste.{paste_none}
use Rattle.text_out.proofs.LaidLaws.{Laid, laid_more, laid_long, counts_short}
use Rattle.listing.specs.Jobs.{area_trimmed, left_readings, Small}
use Rattle.listing.proofs.Answers.{Answer, answer_of, printed_of}

-- ---- counts are small

module _ (F X : ℕ) (test : ℕ → ℕ → Bool) (mark : ℕ) where
  count_few : (turn : ℕ) (ws : List ℕ) → count_from F X test mark turn ws ≤ length ws
  unfolding count_from
  count_few turn [] = omega arith
  count_few turn (w ∷ ws) = one (test turn w) (count_few (turn_after F X mark w turn) ws)
    where
      one : (b : Bool) → count_from F X test mark (turn_after F X mark w turn) ws ≤ length ws → cond b 1 0 + count_from F X test mark (turn_after F X mark w turn) ws ≤ suc (length ws)
      one true h = omega arith
      one false h = omega arith

trim_small : (method : ℕ) (setting : ℤ) (mark : ℕ) (ws : List ℕ) → length ws ≤ 512 → Small (trim_singles method setting mark ws).answer
unfolding trim answering counts
trim_small method setting mark ws h = go (trim_questions 23 8 method setting)
  where
    few : (test : ℕ → ℕ → Bool) → count_from 23 8 test mark 0 ws < 1000
    few test = let k = count_few 23 8 test mark 0 ws in omega arith

    go : (o : Outcome Method) → Small (answering o (λ x. counts 23 8 x mark ws))
    go (refused n) = tt
    go (accepted x) = (few _, (few _, (few _, (few _, (few _, (few _, tt))))))

-- six counts of three digits, each with a byte after it
printed_short : (r : Answer) → Small (answer_of r) → length (printed_of r) ≤ 24
unfolding leaving
printed_short r s = go (answer_of r) s
  where
    go : (o : Outcome Counts) → Small o → length (leaving o counts_line []) ≤ 24
    go (refused n) s = omega arith
    go (accepted c) s = counts_short (counts_in_order c) s

-- ---- the loop

-- series k in the work area
abbrev series : ℕ → List ℕ → ℕ → List ℕ
series m w k = take m (drop (512 * k) w)

module _ (w₀ : List ℕ) (n m method : ℕ) (setting : ℤ) (mark : ℕ) (cs₀ : List ℕ) where
  abbrev trimmed_at : ℕ → AfterTrim
  trimmed_at k = trim_singles method setting mark (series m w₀ k)

  -- j series are trimmed, and their counts' lines laid up to p
  pub record SeriesTurn (w cs : List ℕ) (j p : ℕ) : Type 0 where
    pub low : j ≤ n
    pub most : n ≤ 8
    pub lines : m ≤ 512
    pub long : length w ≡ 4096
    pub space : length cs₀ ≡ 192
    pub done : (k : ℕ) → k < j → series m w k ≡ (trimmed_at k).readings
    pub left : (k : ℕ) → j ≤ k → series m w k ≡ series m w₀ k
    pub text : List ℕ
    pub short : length text ≤ 24 * j
    pub laid : Laid cs₀ 0 text cs p
    pub same : text ++ counts_lines (map (trim_singles method setting mark) (map (series m w₀) (up_to j (n - j)))) ≡ counts_lines (area_trimmed w₀ n m method setting mark)

  pub series_start : n ≤ 8 → m ≤ 512 → length w₀ ≡ 4096 → length cs₀ ≡ 192 → SeriesTurn w₀ cs₀ 0 0
  series_start h g l s = record {
    low = omega arith;
    most = h;
    lines = g;
    long = l;
    space = s;
    done = λ k f. absurd (not-suc-le-zero f);
    left = λ k f. refl;
    text = [];
    short = omega arith;
    laid = record { stored = paste_none cs₀ 0; place = refl; room = omega arith };
    same = ap (λ (x : ℕ). counts_lines (map (trim_singles method setting mark) (map (series m w₀) (up_to 0 x)))) (sub-zero n);
  }

  module _ (w cs : List ℕ) (j p : ℕ) (x : SeriesTurn w cs j p) (h : j < n) where
    pub series_room : 512 * j + m ≤ length w
    series_room = let a = x.most in let b = x.lines in let c = x.long in omega arith

    pub answer_room : p + 24 ≤ length cs
    answer_room =
        let a = x.most in
        let b = x.short in
        let c = x.space in
        let d = x.laid.place in
        let e = laid_long cs₀ 0 x.text cs p x.laid in
        omega arith

    -- the answer is that of the series as it was read
    module _ (r : Answer) (e : answer_of r ≡ (trim_singles method setting mark (series m w j)).answer) where
      answer_same : answer_of r ≡ (trimmed_at j).answer
      answer_same = e ∙ ap (λ (l : List ℕ). (trim_singles method setting mark l).answer) (x.left j (omega arith))

      pub answer_small : Small (answer_of r)
      answer_small = subst Small (sym e) (trim_small method setting mark (series m w j) (let a = x.lines in simp length-take (omega arith)))

      done_turn : (v : List ℕ) → length v ≡ m → v ≡ (trim_singles method setting mark (series m w j)).readings
          → (k : ℕ) → k < j + 1 → series m (back w (512 * j) m v) k ≡ (trimmed_at k).readings
      done_turn v l f k i = go (eqb k j) refl
        where
          go : (b : Bool) → eqb k j ≡ b → series m (back w (512 * j) m v) k ≡ (trimmed_at k).readings
          go true e =
              ap (λ (y : ℕ). series m (back w (512 * j) m v) y) (eqb-true k j e)
              ∙ back_own w (512 * j) m v l series_room
              ∙ f
              ∙ ap (λ (y : List ℕ). (trim_singles method setting mark y).readings) (x.left j (omega arith))
              ∙ ap (λ (y : ℕ). (trimmed_at y).readings) (sym (eqb-true k j e))
          go false e =
              let other = eqb-false k j e in
              let room = series_room in
              let u = x.lines in
              back_before w (512 * j) m v m (512 * k) l (omega arith) room ∙ x.done k (omega arith)

      counts_turn : (x.text ++ printed_of r) ++ counts_lines (map (trim_singles method setting mark) (map (series m w₀) (up_to (j + 1) (n - (j + 1))))) ≡ counts_lines (area_trimmed w₀ n m method setting mark)
      unfolding counts_lines
      counts_turn =
          append_assoc x.text (printed_of r) (counts_lines (map (trim_singles method setting mark) (map (series m w₀) (up_to (j + 1) (n - (j + 1))))))
          ∙ ap (λ (o : Outcome Counts). x.text ++ (leaving o counts_line [] ++ counts_lines (map (trim_singles method setting mark) (map (series m w₀) (up_to (j + 1) (n - (j + 1))))))) answer_same
          ∙ ap (λ (i : ℕ). x.text ++ (leaving (trimmed_at j).answer counts_line [] ++ counts_lines (map (trim_singles method setting mark) (map (series m w₀) (up_to i (n - (j + 1))))))) (add-one j)
          ∙ ap (λ (k : ℕ). x.text ++ counts_lines (map (trim_singles method setting mark) (map (series m w₀) (up_to j k)))) {x = suc (n - (j + 1))} {y = n - j} (omega arith)
          ∙ x.same

      pub series_turn : (v : List ℕ) → length v ≡ m → v ≡ (trim_singles method setting mark (series m w j)).readings
          → (os : List ℕ) (q : ℕ) → (q ≡ p + length (printed_of r)) × (os ≡ paste cs p (printed_of r)) → SeriesTurn (back w (512 * j) m v) os (j + 1) q
      series_turn v l f os q g =
          let room = series_room in
          let few = printed_short r answer_small in
          let t = length-append x.text (printed_of r) in
          let a = x.short in
          let b = x.most in
          let c = x.space in
          let d = x.laid.place in
          let u = x.lines in
          record {
            low = omega arith;
            most = x.most;
            lines = x.lines;
            long = length_back w (512 * j) m v l room ∙ x.long;
            space = x.space;
            done = done_turn v l f;
            left = λ k i. back_after w (512 * j) m v m (512 * k) l (omega arith) room ∙ x.left k (omega arith);
            text = x.text ++ printed_of r;
            short = omega arith;
            laid = laid_more cs₀ 0 x.text cs p x.laid (printed_of r) os q (omega arith) g.1 g.0;
            same = counts_turn;
          }

    -- the same where the part's length is worked out as k
    pub part_small : (k : ℕ) → k ≡ m → (r : Answer) → answer_of r ≡ (trim_singles method setting mark (take k (drop (512 * j) w))).answer → Small (answer_of r)
    part_small k i r e = answer_small r (subst (λ (y : ℕ). answer_of r ≡ (trim_singles method setting mark (take y (drop (512 * j) w))).answer) i e)

    pub part_turn : (k : ℕ) → k ≡ m → (r : Answer) → answer_of r ≡ (trim_singles method setting mark (take k (drop (512 * j) w))).answer
        → (v : List ℕ) → length v ≡ k → v ≡ (trim_singles method setting mark (take k (drop (512 * j) w))).readings
        → (os : List ℕ) (q : ℕ) → (q ≡ p + length (printed_of r)) × (os ≡ paste cs p (printed_of r)) → SeriesTurn (back w (512 * j) k v) os (j + 1) q
    part_turn k i r =
        subst
        (λ (y : ℕ). answer_of r ≡ (trim_singles method setting mark (take y (drop (512 * j) w))).answer
        → (v : List ℕ) → length v ≡ y → v ≡ (trim_singles method setting mark (take y (drop (512 * j) w))).readings
        → (os : List ℕ) (q : ℕ) → (q ≡ p + length (printed_of r)) × (os ≡ paste cs p (printed_of r)) → SeriesTurn (back w (512 * j) y v) os (j + 1) q)
        (sym i)
        (λ e. series_turn r e)

  all_trimmed : (w cs : List ℕ) (j p : ℕ) → SeriesTurn w cs j p → n ≤ j
      → (area_series w n m ≡ left_readings (area_trimmed w₀ n m method setting mark))
      × (p ≡ length (counts_lines (area_trimmed w₀ n m method setting mark)))
      × (cs ≡ paste cs₀ 0 (counts_lines (area_trimmed w₀ n m method setting mark)))
      × (p ≤ 24 * n)
  unfolding counts_lines
  all_trimmed w cs j p x h =
      let b = x.low in
      let e : x.text ≡ counts_lines (area_trimmed w₀ n m method setting mark) =
      sym (append-nil x.text) ∙ ap (λ (k : ℕ). x.text ++ counts_lines (map (trim_singles method setting mark) (map (series m w₀) (up_to j k)))) {x = 0} {y = n - j} (omega arith) ∙ x.same in
      (all_done 0 n (omega arith) (λ k i. x.done k (omega arith)), x.laid.place ∙ zero-add (length x.text) ∙ ap length e, x.laid.stored ∙ ap (paste cs₀ 0) e, (let c = x.short in let d = x.laid.place in omega arith))
    where
      all_done : (i k : ℕ) → i + k ≤ n → ((o : ℕ) → o < n → series m w o ≡ (trimmed_at o).readings)
          → map (series m w) (up_to i k) ≡ map (λ a. a.readings) (map (trim_singles method setting mark) (map (series m w₀) (up_to i k)))
      all_done i zero g d = refl
      all_done i (suc k) g d =
          ap (λ (y : List ℕ). y ∷ map (series m w) (up_to (suc i) k)) (d i (omega arith))
          ∙ ap (λ (l : List (List ℕ)). (trimmed_at i).readings ∷ l) (all_done (suc i) k (omega arith) d)

  -- the same with the method's number as it is defined
  pub series_done : (w cs : List ℕ) (j p : ℕ) → SeriesTurn w cs j p → n ≤ j → (k : ℕ) → method ≡ k
      → (area_series w n m ≡ left_readings (area_trimmed w₀ n m k setting mark))
      × (p ≡ length (counts_lines (area_trimmed w₀ n m k setting mark)))
      × (cs ≡ paste cs₀ 0 (counts_lines (area_trimmed w₀ n m k setting mark)))
      × (p ≤ 24 * n)
  series_done w cs j p x h k e =
      subst
      (λ (y : ℕ). (area_series w n m ≡ left_readings (area_trimmed w₀ n m y setting mark))
      × (p ≡ length (counts_lines (area_trimmed w₀ n m y setting mark)))
      × (cs ≡ paste cs₀ 0 (counts_lines (area_trimmed w₀ n m y setting mark)))
      × (p ≤ 24 * n))
      e
      (all_trimmed w cs j p x h)
