-- Laws that make the definitions believable, in the documents' words and order, for every width and for singles' layers. Most are proved in the other files; this is
-- the page to read.
use mathlib.Core.Path.{◌≡◌, refl, sym, ◌∙◌}
use mathlib.Core.Logic.{◌≢◌, ◌↔◌, ◌⊎◌, inl, inr}
use mathlib.Core.Bool.{true, false, cond}
use mathlib.Core.List.{List}
use Prim.Native.Nat.{ℕ, suc, ◌+◌, ◌-◌, ◌*◌, ◌/◌, ◌%◌, ◌^◌, ◌≤◌, ◌<◌}
use native.Mathlib.Nat.{not-le_of_lt, sub-le}
use native.Mathlib.Decide.{dec_lt, ℕ_discrete}
use native.Mathlib.Omega.{arith}
use lib.IntN.{ℤ}
use lib.ListN.{length, take, get_or}
use lib.Pow.{pow_pos}
use Rattle.meaning.specs.Readings.{size, spacing, sign, magnitude, infinity, finite, magnitude_of, distance}
use Rattle.meaning.specs.Methods.{Method, tail, shave, set, groom, round, absolute, unit, nearest, shaved, rounded, tail_changed, absolute_size, decade, new_magnitude, trimmable, trimmed, changed, risen, fallen, turn_after, turns_in, trim_from, Counts}
use Rattle.meaning.specs.Layers.{last_code, missing_code, holds, span, summary, layer_of, code}
use Rattle.meaning.specs.Questions.{accepted, trim_questions}
use Rattle.meaning.specs.Calls.{trim}
use Rattle.meaning.specs.Comparing.{none, at, beyond, compared}
use Rattle.meaning.proofs.Sizes.{size_mono, size_le}
use Rattle.meaning.proofs.Patterns.{magnitude_of_size, magnitude_of_floor, below_finite, sign_one, pattern_fits, pattern_back}
use Rattle.meaning.proofs.Nearest.{nearest_floor}
use Rattle.meaning.proofs.Grid.{unit_apart}
use Rattle.meaning.proofs.Tails.{agree_close, tail_changed_agree}
use Rattle.meaning.proofs.Rounding.{round_within, round_clipped}
use Rattle.meaning.proofs.Absolute.{absolute_exact}
use Rattle.meaning.proofs.Digits.{Decade, decade_rule}
use Rattle.meaning.proofs.Accepted.{Ready, accepted_ready}
use Rattle.meaning.proofs.OneReading.{trimmed_missing, trimmed_present, stays}
use Rattle.meaning.proofs.Moves.{rose_or_fell, rises_plus, rises_minus, answer_sum}
use Rattle.meaning.proofs.Turns.{idle, even_shaved, odd_set, takers, gaps, by_place}
use Rattle.meaning.proofs.Comparing.{First, first_both, none_both}
use Rattle.meaning.proofs.Packing.{Packable, layer_holds, layer_least, layer_codes, singles_held}

pub record Laws (F X : ℕ) : Type 0 where
  -- Sizes and magnitudes are each other's inverse where they are finite: a size leads back to its magnitude, and any number to the largest magnitude below it.
  pub inverse : (m : ℕ) → m < infinity F X → magnitude_of F X (size F m) ≡ m
  pub floor : (n : ℕ) → n < size F (infinity F X) → (size F (magnitude_of F X n) ≤ n) × (n < size F (suc (magnitude_of F X n)))
  -- They are in one order.
  pub order : (m n : ℕ) → (m < n) ↔ (size F m < size F n)
  -- S and S + 2^t stand one unit apart; shave moves by less than a unit; round's result is one of the two.
  pub unit_wide : (m t : ℕ) → t ≤ F → size F (shaved t m + 2 ^ t) ≡ size F (shaved t m) + 2 ^ t * spacing F m
  pub shave_moves : (k turn m : ℕ) → distance (size F m) (size F (new_magnitude F X (tail shave k) turn m)) < unit F (tail shave k) m
  pub round_either : (k turn m : ℕ) → (new_magnitude F X (round k) turn m ≡ shaved (F - k) m) ⊎ (new_magnitude F X (round k) turn m ≡ shaved (F - k) m + 2 ^ (F - k))
  -- The result of absolute has exactly the size that document 01 names: the nearest multiple, or the largest finite one.
  pub absolute_size_lem : (q turn m : ℕ) → m < infinity F X → size F (new_magnitude F X (absolute q) turn m) ≡ absolute_size F X q m
  -- The decade of digits is the one that document 01 names.
  pub digit_decade : (m : ℕ) → 0 < m → Decade F X m (decade F X m)
  -- What an accepted call leaves is a pattern of the width, is the mark exactly where the reading was, and is finite where the reading was.
  pub left_pattern : (method : ℕ) (setting : ℤ) (x : Method) → trim_questions F X method setting ≡ accepted x
      → (mark turn w : ℕ) → w < 2 ^ suc (F + X) → trimmed F X x mark turn w < 2 ^ suc (F + X)
  pub left_mark : (x : Method) (mark turn w : ℕ) → (trimmed F X x mark turn w ≡ mark) ↔ (w ≡ mark)
  pub left_finite : (method : ℕ) (setting : ℤ) (x : Method) → trim_questions F X method setting ≡ accepted x
      → (mark turn w : ℕ) → finite F X w ≡ true → finite F X (trimmed F X x mark turn w) ≡ true
  -- Document 02 (a): a reading rises where its magnitude grows and its sign is 0, or shrinks and its sign is 1; a changed one rises or falls, and never both; and
  -- "Changed equals their sum".
  pub rises_above : (method : ℕ) (setting : ℤ) (x : Method) → trim_questions F X method setting ≡ accepted x
      → (mark turn w : ℕ) → sign F X w ≡ 0 → (risen F X x mark turn w ≡ true) ↔ (magnitude F X w < magnitude F X (trimmed F X x mark turn w))
  pub rises_below : (method : ℕ) (setting : ℤ) (x : Method) → trim_questions F X method setting ≡ accepted x
      → (mark turn w : ℕ) → sign F X w ≢ 0 → (risen F X x mark turn w ≡ true) ↔ (magnitude F X (trimmed F X x mark turn w) < magnitude F X w)
  pub moves_once : (method : ℕ) (setting : ℤ) (x : Method) → trim_questions F X method setting ≡ accepted x
      → (mark turn w : ℕ) → cond (changed F X x mark turn w) 1 0 ≡ cond (risen F X x mark turn w) 1 0 + cond (fallen F X x mark turn w) 1 0
  pub changed_sum : (method : ℕ) (setting : ℤ) (mark : ℕ) (ws : List ℕ) (c : Counts) → (trim F X method setting mark ws).answer ≡ accepted c
      → c.changed_places ≡ c.risen_places + c.fallen_places
  -- Document 02 (b): grooming shaves a reading that an even number of present finite readings came before, and sets the others; a reading that is missing or not finite
  -- moves no turn; what a call leaves of the present finite readings is what it leaves of them without the others; and where there are no others, the turn of a place is the
  -- place.
  pub turn_shaved : (mark k : ℕ) (ws : List ℕ) (i : ℕ) → i < length ws → turns_in F X mark (take i ws) % 2 ≡ 0
      → get_or (trim_from F X (tail groom k) mark 0 ws) i 0 ≡ trimmed F X (tail shave k) mark 0 (get_or ws i 0)
  pub turn_set : (mark k : ℕ) (ws : List ℕ) (i : ℕ) → i < length ws → turns_in F X mark (take i ws) % 2 ≡ 1
      → get_or (trim_from F X (tail groom k) mark 0 ws) i 0 ≡ trimmed F X (tail set k) mark 0 (get_or ws i 0)
  pub turn_stays : (mark w turn : ℕ) → trimmable F X mark w ≡ false → turn_after F X mark w turn ≡ turn
  pub turn_gaps : (mark method : ℕ) (setting : ℤ) (ws : List ℕ) → takers F X mark (trim F X method setting mark ws).readings ≡ (trim F X method setting mark (takers F X mark ws)).readings
  pub turn_place : (mark : ℕ) (ws : List ℕ) → ((k : ℕ) → k < length ws → trimmable F X mark (get_or ws k 0) ≡ true) → (i : ℕ) → i ≤ length ws → turns_in F X mark (take i ws) ≡ i
  -- Document 02 (c), of two arrays of one length: place i is the first one beyond exactly where it is beyond and no place before it is; and there is none exactly where no
  -- place is beyond.
  pub first_place : (mark q : ℕ) (raw trimmed : List ℕ) → length raw ≡ length trimmed
      → (i : ℕ) → ((compared F X mark q raw trimmed).first ≡ at i) ↔ First (beyond F X mark q) raw trimmed i
  pub no_place : (mark q : ℕ) (raw trimmed : List ℕ) → length raw ≡ length trimmed
      → ((compared F X mark q raw trimmed).first ≡ none) ↔ ((i : ℕ) → i < length raw → beyond F X mark q (get_or raw i 0) (get_or trimmed i 0) ≡ false)

module _ (F X : ℕ) where
  order_both : (m n : ℕ) → (m < n) ↔ (size F m < size F n)
  order_both m n = (size_mono F, λ h. back h (dec_lt m n))
    where
      back : size F m < size F n → Dec (m < n) → m < n
      back h (yes l) = l
      back h (no l) = absurd (not-le_of_lt h (size_le F {m = n} {n = m} (omega arith)))

  shave_close : (k turn m : ℕ) → distance (size F m) (size F (new_magnitude F X (tail shave k) turn m)) < unit F (tail shave k) m
  unfolding new_magnitude unit
  shave_close k turn m =
      agree_close F m (tail_changed shave turn (F - k) m) (F - k) (sub-le F k) (sym (tail_changed_agree shave turn (F - k) m))

  round_sides : (k turn m : ℕ) → (new_magnitude F X (round k) turn m ≡ shaved (F - k) m) ⊎ (new_magnitude F X (round k) turn m ≡ shaved (F - k) m + 2 ^ (F - k))
  unfolding shaved rounded
  round_sides k turn m = go (dec_lt (rounded (F - k) m) (infinity F X)) (ℕ_discrete (nearest m g) (m / g))
    where
      g : ℕ
      g = 2 ^ (F - k)

      up : nearest m g ≢ m / g → nearest m g ≡ m / g + 1
      up h = omega (arith, nearest_floor m g (pow_pos (F - k)))

      go : Dec (rounded (F - k) m < infinity F X) → Dec (nearest m g ≡ m / g)
          → (new_magnitude F X (round k) turn m ≡ shaved (F - k) m) ⊎ (new_magnitude F X (round k) turn m ≡ shaved (F - k) m + 2 ^ (F - k))
      go (no f) d = inl (round_clipped F X k turn m (omega arith))
      go (yes f) (yes d) = inl (round_within F X k turn m f ∙ rw d refl)
      go (yes f) (no d) = inr (round_within F X k turn m f ∙ rw (up d) (omega arith))

  mark_both : (x : Method) (mark turn w : ℕ) → (trimmed F X x mark turn w ≡ mark) ↔ (w ≡ mark)
  mark_both x mark turn w = (λ h. back h (ℕ_discrete w mark), λ e. rw e (trimmed_missing F X x mark turn))
    where
      back : trimmed F X x mark turn w ≡ mark → Dec (w ≡ mark) → w ≡ mark
      back h (yes e) = e
      back h (no e) = absurd (trimmed_present F X x mark turn w e h)

  left_fits : (x : Method) → Ready x → (mark turn w : ℕ) → w < 2 ^ suc (F + X) → trimmed F X x mark turn w < 2 ^ suc (F + X)
  left_fits x r mark turn w h =
      stays F X (λ v. v < 2 ^ suc (F + X)) x r mark turn w h (λ p f g.
      rw (← pattern_back F X (trimmed F X x mark turn w)) (pattern_fits F X (sign F X (trimmed F X x mark turn w)) (magnitude F X (trimmed F X x mark turn w)) (rw g.signed (sign_one F X w h)) g.below))

  left_below : (x : Method) → Ready x → (mark turn w : ℕ) → finite F X w ≡ true → finite F X (trimmed F X x mark turn w) ≡ true
  left_below x r mark turn w h = stays F X (λ v. finite F X v ≡ true) x r mark turn w h (λ p f g. below_finite F X (trimmed F X x mark turn w) g.below)

  pub laws : Laws F X
  unfolding compared
  laws =
      record {
        inverse = magnitude_of_size F X;
        floor = magnitude_of_floor F X;
        order = order_both;
        unit_wide = unit_apart F;
        shave_moves = shave_close;
        round_either = round_sides;
        absolute_size_lem = absolute_exact F X;
        digit_decade = decade_rule F X;
        left_pattern = λ method setting x e. left_fits x (accepted_ready F X method setting x e);
        left_mark = mark_both;
        left_finite = λ method setting x e. left_below x (accepted_ready F X method setting x e);
        rises_above = λ method setting x e. rises_plus F X x (accepted_ready F X method setting x e);
        rises_below = λ method setting x e. rises_minus F X x (accepted_ready F X method setting x e);
        moves_once = λ method setting x e. rose_or_fell F X x (accepted_ready F X method setting x e);
        changed_sum = answer_sum F X;
        turn_shaved = even_shaved F X;
        turn_set = odd_set F X;
        turn_stays = idle F X;
        turn_gaps = gaps F X;
        turn_place = by_place F X;
        first_place = λ mark q. first_both (beyond F X mark q);
        no_place = λ mark q. none_both (beyond F X mark q);
      }

-- Layers of singles whose present readings are all finite, of a width w of at least 2: the step exponent holds the span and is the least that does; a code is the missing
-- one where the reading is missing, and at most 2^w - 2 elsewhere.
pub record LayerLaws (mark w : ℕ) (ws : List ℕ) : Type 0 where
  pub exponent_holds : holds w (span 23 8 (summary 23 8 mark ws)) (layer_of 23 8 277 mark w ws).exponent ≡ true
  pub exponent_least : (e : ℕ) → holds w (span 23 8 (summary 23 8 mark ws)) e ≡ true → (layer_of 23 8 277 mark w ws).exponent ≤ e
  pub codes_missing : (i : ℕ) → i < length ws → get_or ws i 0 ≡ mark → code 23 8 mark (layer_of 23 8 277 mark w ws) (get_or ws i 0) ≡ 2 ^ w - 1
  pub codes_bounded : (i : ℕ) → i < length ws → get_or ws i 0 ≢ mark → code 23 8 mark (layer_of 23 8 277 mark w ws) (get_or ws i 0) ≤ 2 ^ w - 2

pub layer_laws : (mark w : ℕ) (ws : List ℕ) → 2 ≤ w → Packable 23 8 mark ws → LayerLaws mark w ws
unfolding last_code missing_code layer_of
layer_laws mark w ws b p =
    record {
      exponent_holds = layer_holds 23 8 277 mark w ws held;
      exponent_least = layer_least 23 8 277 mark w ws held;
      codes_missing = λ i h e. (layer_codes 23 8 277 mark w ws held i h).is_missing_code e;
      codes_bounded = λ i h e. (layer_codes 23 8 277 mark w ws held i h).other_code e;
    }
  where
    held : holds w (span 23 8 (summary 23 8 mark ws)) 277 ≡ true
    held = singles_held mark w ws b p
