-- Planes and readings undo each other, for every number of bytes; trimming in planes gives the planes of the trimmed array and the same answer, in one call and in every list
-- of calls.
use mathlib.Core.Path.{◌≡◌, refl, sym, ap, ap₂, ◌∙◌}
use mathlib.Core.Bool.{true}
use mathlib.Core.List.{List, [], ◌∷◌, map, zip_with}
use Prim.Native.Nat.{ℕ, zero, suc, ◌+◌, ◌*◌, ◌/◌, ◌%◌, ◌^◌, ◌<◌}
use native.Mathlib.Nat.{pow-suc, mul-suc}
use native.Mathlib.Omega.{arith}
use borrow.Author.Tests.{ltb-true, lt-ltb, eq-eqb}
use lib.Dec.{ltb}
use lib.IntN.{ℤ}
use lib.ListN.{length, take, drop, replicate, length-append, length-take, length-drop, length-map, length-replicate, take-append-drop}
use lib.Seq.{take_at, drop_at}
use Rattle.meaning.specs.Methods.{Method, trimmed, turn_after, trim_from}
use Rattle.meaning.specs.Questions.{Outcome, refused, accepted, all, ask, trim_questions}
use Rattle.meaning.specs.Calls.{Call, leaving, trim, in_turn}
use Rattle.meaning.specs.Planes.{planes, readings, planes_question, to_planes, from_planes, trim_planes_questions, trim_planes, in_turn_planes, InBytes, Inverse, InPlanes}
use Rattle.meaning.proofs.Accepted.{and_first, and_second}
use Rattle.meaning.proofs.Laws.{laws}

-- ---- numbers below a limit

abbrev Under : ℕ → List ℕ → Type 0
Under m ws = all (λ w. ltb w m) ws ≡ true

module _ (m : ℕ) where
  under_first : (w : ℕ) (ws : List ℕ) → Under m (w ∷ ws) → w < m
  unfolding all
  under_first w ws h = ltb-true w m (and_first (ltb w m) (all (λ v. ltb v m) ws) h)

  under_rest : (w : ℕ) (ws : List ℕ) → Under m (w ∷ ws) → Under m ws
  unfolding all
  under_rest w ws h = and_second (ltb w m) (all (λ v. ltb v m) ws) h

  under_both : (w : ℕ) (ws : List ℕ) → w < m → Under m ws → Under m (w ∷ ws)
  unfolding all
  under_both w ws l h = rw (lt-ltb w m l) h

  under_take : (n : ℕ) (ws : List ℕ) → Under m ws → Under m (take n ws)
  unfolding all
  under_take zero ws h = refl
  under_take (suc n) [] h = h
  under_take (suc n) (w ∷ ws) h = under_both w (take n ws) (under_first w ws h) (under_take n ws (under_rest w ws h))

  under_drop : (n : ℕ) (ws : List ℕ) → Under m ws → Under m (drop n ws)
  under_drop zero ws h = h
  under_drop (suc n) [] h = h
  under_drop (suc n) (w ∷ ws) h = under_drop n ws (under_rest w ws h)

-- ---- from planes after to planes

join : (ws : List ℕ) → zip_with (λ low above. low + 256 * above) (map (λ w. w % 256) ws) (map (λ w. w / 256) ws) ≡ ws
unfolding zip_with
join [] = refl
join (w ∷ ws) = ap₂ (λ (x : ℕ) (l : List ℕ). x ∷ l) {x = w % 256 + 256 * (w / 256)} {y = w} (omega arith) (join ws)

above : (B : ℕ) (ws : List ℕ) → InBytes (suc B) ws → InBytes B (map (λ w. w / 256) ws)
unfolding all
above B [] h = refl
above B (w ∷ ws) h =
    under_both (256 ^ B) (w / 256) (map (λ v. v / 256) ws) (omega (arith, under_first (256 ^ suc B) w ws h, pow-suc 256 B)) (above B ws (under_rest (256 ^ suc B) w ws h))

no_bits : (ws : List ℕ) → InBytes 0 ws → replicate (length ws) 0 ≡ ws
no_bits [] h = refl
no_bits (w ∷ ws) h = ap₂ (λ (x : ℕ) (l : List ℕ). x ∷ l) {x = 0} {y = w} (omega (arith, under_first 1 w ws h)) (no_bits ws (under_rest 1 w ws h))

back_again : (B : ℕ) (ws : List ℕ) → InBytes B ws → readings B (length ws) (planes B ws) ≡ ws
unfolding planes readings
back_again zero ws h = no_bits ws h
back_again (suc B) ws h =
    let lows = map (λ (w : ℕ). w % 256) ws in
    let highs = map (λ (w : ℕ). w / 256) ws in
    let l : length lows ≡ length ws = length-map ws (λ (w : ℕ). w % 256) in
    rw (take_at lows (planes B highs) (length ws) l, drop_at lows (planes B highs) (length ws) l)
    (ap (λ (n : ℕ). zip_with (λ low above. low + 256 * above) lows (readings B n (planes B highs))) (sym (length-map ws (λ (w : ℕ). w / 256)))
    ∙ ap (zip_with (λ low above. low + 256 * above) lows) (back_again B highs (above B ws h)) ∙ join ws)

-- ---- to planes after from planes

pub planes_length : (B : ℕ) (ws : List ℕ) → length (planes B ws) ≡ length ws * B
unfolding planes
planes_length zero ws = omega arith
planes_length (suc B) ws =
    simp (length-append, length-map)
    (omega (arith, planes_length B (map (λ w. w / 256) ws), ap (λ (n : ℕ). n * B) (length-map ws (λ (w : ℕ). w / 256)), mul-suc (length ws) B))

pub zip_length : (f : ℕ → ℕ → ℕ) (xs ys : List ℕ) → length xs ≡ length ys → length (zip_with f xs ys) ≡ length xs
unfolding zip_with
zip_length f [] ys e = refl
zip_length f (x ∷ xs) [] e = absurd (omega arith)
zip_length f (x ∷ xs) (y ∷ ys) e = ap suc (zip_length f xs ys (omega arith))

module _ (B n : ℕ) (ps : List ℕ) (h : length ps ≡ n * suc B) where
  first_plane : length (take n ps) ≡ n
  first_plane = simp length-take (omega (arith, mul-suc n B))

  later_planes : length (drop n ps) ≡ n * B
  later_planes = simp length-drop (omega (arith, mul-suc n B))

pub readings_length : (B n : ℕ) (ps : List ℕ) → length ps ≡ n * B → length (readings B n ps) ≡ n
unfolding readings
readings_length zero n ps h = length-replicate n 0
readings_length (suc B) n ps h =
    let a = first_plane B n ps h in
    zip_length (λ low above. low + 256 * above) (take n ps) (readings B n (drop n ps)) (a ∙ sym (readings_length B n (drop n ps) (later_planes B n ps h))) ∙ a

-- low bytes and what stands above them come apart again
low_part : (xs ys : List ℕ) → length xs ≡ length ys → InBytes 1 xs → map (λ w. w % 256) (zip_with (λ low above. low + 256 * above) xs ys) ≡ xs
unfolding zip_with
low_part [] ys e h = refl
low_part (x ∷ xs) [] e h = absurd (omega arith)
low_part (x ∷ xs) (y ∷ ys) e h =
    ap₂ (λ (z : ℕ) (l : List ℕ). z ∷ l) {x = (x + 256 * y) % 256} {y = x} (omega (arith, under_first 256 x xs h)) (low_part xs ys (omega arith) (under_rest 256 x xs h))

high_part : (xs ys : List ℕ) → length xs ≡ length ys → InBytes 1 xs → map (λ w. w / 256) (zip_with (λ low above. low + 256 * above) xs ys) ≡ ys
unfolding zip_with
high_part [] [] e h = refl
high_part [] (y ∷ ys) e h = absurd (omega arith)
high_part (x ∷ xs) [] e h = absurd (omega arith)
high_part (x ∷ xs) (y ∷ ys) e h =
    ap₂ (λ (z : ℕ) (l : List ℕ). z ∷ l) {x = (x + 256 * y) / 256} {y = y} (omega (arith, under_first 256 x xs h)) (high_part xs ys (omega arith) (under_rest 256 x xs h))

no_bytes : (ps : List ℕ) → length ps ≡ 0 → [] ≡ ps
no_bytes [] e = refl
no_bytes (p ∷ ps) e = absurd (omega arith)

there_again : (B n : ℕ) (ps : List ℕ) → length ps ≡ n * B → InBytes 1 ps → planes B (readings B n ps) ≡ ps
unfolding planes readings
there_again zero n ps h k = no_bytes ps (omega arith)
there_again (suc B) n ps h k =
    let r = later_planes B n ps h in
    let e : length (take n ps) ≡ length (readings B n (drop n ps)) = first_plane B n ps h ∙ sym (readings_length B n (drop n ps) r) in
    let b = under_take 256 n ps k in
    rw (low_part (take n ps) (readings B n (drop n ps)) e b, high_part (take n ps) (readings B n (drop n ps)) e b, there_again B n (drop n ps) r (under_drop 256 n ps k))
    (take-append-drop n ps)

-- ---- one conversion after the other

-- a buffer of the right length is taken
pub fits_in : (B n buffer : ℕ) → buffer ≡ n * B → planes_question B n buffer ≡ accepted tt
unfolding planes_question ask
fits_in B n buffer e = rw (eq-eqb buffer (n * B) e) refl

through : (B : ℕ) (ws buffer before : List ℕ) → InBytes B ws → length buffer ≡ length ws * B → length before ≡ length ws → (from_planes B (to_planes B ws buffer).content before).content ≡ ws
unfolding to_planes from_planes leaving
through B ws buffer before h e l =
    rw (fits_in B (length ws) (length buffer) e, l, fits_in B (length ws) (length (planes B ws)) (planes_length B ws)) (back_again B ws h)

pub inverse : (B : ℕ) → Inverse B
inverse B = record { there_and_back = back_again B; back_and_there = there_again B; converted = through B }

-- ---- trimming

module _ (B F X : ℕ) where
  -- with a buffer of the right length the questions are those of trimming
  pub asked_as_trim : (method : ℕ) (setting : ℤ) (n buffer : ℕ) → buffer ≡ n * B → trim_planes_questions B F X method setting n buffer ≡ trim_questions F X method setting
  unfolding trim_planes_questions trim_questions ask
  asked_as_trim method setting n buffer e = rw (eq-eqb buffer (n * B) e) refl

  module _ (method : ℕ) (setting : ℤ) (mark : ℕ) (ws : List ℕ) (h : InBytes B ws) where
    asked_here : trim_planes_questions B F X method setting (length ws) (length (planes B ws)) ≡ trim_questions F X method setting
    asked_here = asked_as_trim method setting (length ws) (length (planes B ws)) (planes_length B ws)

    answers_same : (trim_planes B F X method setting mark (length ws) (planes B ws)).answer ≡ (trim F X method setting mark ws).answer
    unfolding trim_planes trim
    answers_same = rw (asked_here, back_again B ws h) refl

    leaves_same : (trim_planes B F X method setting mark (length ws) (planes B ws)).content ≡ planes B (trim F X method setting mark ws).readings
    unfolding trim_planes trim leaving
    leaves_same = rw (asked_here, back_again B ws h) (go (trim_questions F X method setting))
      where
        go : (o : Outcome Method) → leaving o (λ x. planes B (trim_from F X x mark 0 ws)) (planes B ws) ≡ planes B (leaving o (λ x. trim_from F X x mark 0 ws) ws)
        go (refused n) = refl
        go (accepted x) = refl

  -- ---- every list of calls

  -- a trim leaves as many readings as it got, each of the width
  module _ (method : ℕ) (setting : ℤ) (mark : ℕ) (wide : 2 ^ suc (F + X) ≡ 256 ^ B) where
    from_length : (x : Method) (turn : ℕ) (ws : List ℕ) → length (trim_from F X x mark turn ws) ≡ length ws
    unfolding trim_from
    from_length x turn [] = refl
    from_length x turn (w ∷ ws) = ap suc (from_length x (turn_after F X mark w turn) ws)

    from_in : (x : Method) → trim_questions F X method setting ≡ accepted x → (turn : ℕ) (ws : List ℕ) → InBytes B ws → InBytes B (trim_from F X x mark turn ws)
    unfolding trim_from
    from_in x e turn [] h = h
    from_in x e turn (w ∷ ws) h =
        let l = (laws F X).left_pattern method setting x e mark turn w (rw wide (under_first (256 ^ B) w ws h)) in
        under_both (256 ^ B) (trimmed F X x mark turn w) (trim_from F X x mark (turn_after F X mark w turn) ws) (rw (← wide) l)
        (from_in x e (turn_after F X mark w turn) ws (under_rest (256 ^ B) w ws h))

    left_in : (ws : List ℕ) → InBytes B ws → (length (trim F X method setting mark ws).readings ≡ length ws) × InBytes B (trim F X method setting mark ws).readings
    unfolding trim leaving
    left_in ws h = go (trim_questions F X method setting) refl
      where
        go : (o : Outcome Method) → trim_questions F X method setting ≡ o
            → (length (leaving o (λ x. trim_from F X x mark 0 ws) ws) ≡ length ws) × InBytes B (leaving o (λ x. trim_from F X x mark 0 ws) ws)
        go (refused n) e = (refl, h)
        go (accepted x) e = (from_length x 0 ws, from_in x e 0 ws h)

  turns_same : 2 ^ suc (F + X) ≡ 256 ^ B → (cs : List Call) (mark : ℕ) (ws : List ℕ) → InBytes B ws → in_turn_planes B F X cs mark (length ws) (planes B ws) ≡ planes B (in_turn F X cs mark ws)
  unfolding in_turn_planes in_turn
  turns_same wide [] mark ws h = refl
  turns_same wide (c ∷ cs) mark ws h =
      let l = left_in c.method c.setting mark wide ws h in
      ap (in_turn_planes B F X cs mark (length ws)) (leaves_same c.method c.setting mark ws h)
      ∙ ap (λ (n : ℕ). in_turn_planes B F X cs mark n (planes B (trim F X c.method c.setting mark ws).readings)) (sym l.0)
      ∙ turns_same wide cs mark (trim F X c.method c.setting mark ws).readings l.1

  pub in_planes : InPlanes B F X
  in_planes = record { same_answer = answers_same; same_planes = leaves_same; same_in_turn = turns_same }

-- both widths: a single has four bytes, a double eight
pub singles_in_planes : (cs : List Call) (mark : ℕ) (ws : List ℕ) → InBytes 4 ws → in_turn_planes 4 23 8 cs mark (length ws) (planes 4 ws) ≡ planes 4 (in_turn 23 8 cs mark ws)
singles_in_planes = (in_planes 4 23 8).same_in_turn refl

pub doubles_in_planes : (cs : List Call) (mark : ℕ) (ws : List ℕ) → InBytes 8 ws → in_turn_planes 8 52 11 cs mark (length ws) (planes 8 ws) ≡ planes 8 (in_turn 52 11 cs mark ws)
doubles_in_planes = (in_planes 8 52 11).same_in_turn refl
