-- Document 02 (g), "Layer totals in four lanes": the number of present codes of a layer and their sum, the exact total that they stand for, and how far that lies from the
-- total of the readings.
use Rattle.std.specs.Prelude.{◌≡◌, true, cond, ℕ, suc, ◌+◌, ◌*◌, ◌/◌, ◌%◌, ◌^◌, ◌≤◌, ◌<◌, eqb, ℤ, pos, neg_ℤ, nat_abs, ◌+ℤ◌, ◌-ℤ◌, ◌*ℤ◌, length, take, drop}
use mathlib.Core.List.{List, [], ◌∷◌, zip_with}
use Rattle.meaning.specs.Readings.{size, sign, magnitude, magnitude_of, origin, distance, missing}
use Rattle.meaning.specs.Methods.{Method}
use Rattle.meaning.specs.Layers.{Layer, missing_code, code_meaning, layers}
use Rattle.meaning.specs.Questions.{Outcome, accepted, ask, all, length_in_range, width_in_range, code_in_range}
use Rattle.meaning.specs.Calls.{Call, answering, in_turn, accepted_calls, largest_unit, pack, stored_layers}
use Rattle.meaning.specs.Claim.{one_kind, layer_at}

-- "the number of present codes and the sum of those codes"
pub record Totals : Type 0 where
  pub count : ℕ
  pub sum : ℕ

-- "the sum taken in order": of what f makes of each
unfoldable pub in_order_sum : {A : Type 0} → (A → ℕ) → List A → ℕ
in_order_sum f [] = 0
in_order_sum f (x ∷ xs) = f x + in_order_sum f xs

-- a code is present where it isn't the missing one, m: 1 to be counted, and the code to be summed
unfoldable pub one_present : ℕ → ℕ → ℕ
one_present m c = cond (eqb c m) 0 1

unfoldable pub if_present : ℕ → ℕ → ℕ
if_present m c = cond (eqb c m) 0 c

-- of one layer's codes, of width w
unfoldable pub totals_of : ℕ → List ℕ → Totals
totals_of w cs = record { count = in_order_sum (one_present (missing_code w)) cs; sum = in_order_sum (if_present (missing_code w)) cs }

-- "The existing 3 (the number of codes stands for L), 11 and 12 apply, in that order."
unfoldable pub totals_questions : ℕ → List ℕ → Outcome (Unit {0})
totals_questions w cs =
    ask (length_in_range (length cs)) 3
    (ask (width_in_range w) 11
    (ask (all (code_in_range w) cs) 12
    (accepted tt)))

-- "Given one layer's codes and their width, answer the number of present codes and the sum of those codes."
unfoldable pub totals : ℕ → List ℕ → Outcome Totals
totals w cs = answering (totals_questions w cs) (λ _. totals_of w cs)

-- "gathered in four lanes, place mod 4": lane k takes the places whose remainder by 4 is k; of a list that begins at a place
unfoldable pub lane_from : {A : Type 0} → (A → ℕ) → ℕ → ℕ → List A → ℕ
lane_from f k place [] = 0
lane_from f k place (x ∷ xs) = cond (eqb (place % 4) k) (f x) 0 + lane_from f k (suc place) xs

abbrev pub lane : {A : Type 0} → (A → ℕ) → ℕ → List A → ℕ
lane f k xs = lane_from f k 0 xs

-- "and joined at the end; it must equal the sum taken in order"
pub record Joined {A : Type 0} (f : A → ℕ) (xs : List A) : Type 0 where
  pub in_order : lane f 0 xs + lane f 1 xs + lane f 2 xs + lane f 3 xs ≡ in_order_sum f xs

-- ---- exact totals, "stated over whole least spacings"

-- numbers with signs, added up
unfoldable pub signed_sum : {A : Type 0} → (A → ℤ) → List A → ℤ
signed_sum f [] = pos 0
signed_sum f (x ∷ xs) = f x +ℤ signed_sum f xs

-- "Distances .. are taken between exact signed sizes": how far two of them lie apart
abbrev pub apart : ℤ → ℤ → ℕ
apart a b = nat_abs (a -ℤ b)

module _ (F X : ℕ) where
  -- "exact signed size" of a finite reading
  unfoldable pub signed_size : ℕ → ℤ
  signed_size w = let n = pos (size F (magnitude F X w)) in cond (eqb (sign F X w) 0) n (neg_ℤ n)

  -- "The exact meaning of a code that isn't the missing one is R plus code times the step"
  unfoldable pub exact_meaning : Layer → ℕ → ℤ
  exact_meaning l c = signed_size l.reference +ℤ pos (c * 2 ^ l.exponent)

  -- the exact meanings of a layer's present codes, added up
  unfoldable pub meanings_total : Layer → List ℕ → ℤ
  meanings_total l cs = signed_sum (λ c. cond (eqb c (missing_code l.width)) (pos 0) (exact_meaning l c)) cs

  -- "The exact total of a layer is then count times R plus sum times 2^E"
  unfoldable pub exact_total : Layer → Totals → ℤ
  exact_total l t = pos t.count *ℤ signed_size l.reference +ℤ pos (t.sum * 2 ^ l.exponent)

  -- "the total of the present readings"
  unfoldable pub readings_total : ℕ → List ℕ → ℤ
  readings_total mark ws = signed_sum (λ w. cond (missing mark w) (pos 0) (signed_size w)) ws

  -- the largest unit that any of the methods has at each present reading, added up
  unfoldable pub units_total : List Method → ℕ → List ℕ → ℕ
  units_total xs mark ws = in_order_sum (λ w. cond (missing mark w) 0 (largest_unit F xs (magnitude F X w))) ws

-- how many readings are present
unfoldable pub present_in : ℕ → List ℕ → ℕ
present_in mark ws = in_order_sum (λ w. cond (missing mark w) 0 1) ws

-- the largest unit at the largest reading that each present code can stand for, added up: it follows from what is left when the readings are wiped
unfoldable pub units_left : List Method → Layer → List ℕ → ℕ
units_left xs l cs =
    in_order_sum (λ c. cond (eqb c (missing_code l.width)) 0 (largest_unit 23 xs (magnitude_of 23 8 (distance (code_meaning 23 8 l c) (origin 23 8) + 2 ^ l.exponent / 2)))) cs

-- ---- what is promised of one layer: l is its width, reference and exponent as they are stored, and cs are its codes

-- ws are the readings packed
pub record LayerTotal (mark : ℕ) (l : Layer) (cs ws : List ℕ) : Type 0 where
  -- the call accepts what packing leaves, and answers the totals
  pub answered : totals l.width cs ≡ accepted (totals_of l.width cs)
  pub all_counted : (totals_of l.width cs).count ≡ present_in mark ws
  -- "it lies within count times half a step of the total of the present readings packed"
  pub near : 2 * apart (exact_total 23 8 l (totals_of l.width cs)) (readings_total 23 8 mark ws) ≤ (totals_of l.width cs).count * 2 ^ l.exponent

-- Beyond the request, with demand 3: ws are the readings as they were before the calls that trimmed them, and xs are the accepted ones.
pub record SentTotal (xs : List Method) (mark : ℕ) (l : Layer) (cs ws : List ℕ) : Type 0 where
  pub all_counted : (totals_of l.width cs).count ≡ present_in mark ws
  -- less than all units at the readings, and count times half a step
  pub near : 0 < present_in mark ws
      → 2 * apart (exact_total 23 8 l (totals_of l.width cs)) (readings_total 23 8 mark ws) < 2 * units_total 23 8 xs mark ws + (totals_of l.width cs).count * 2 ^ l.exponent
  -- the same of units that need nothing of the original
  pub near_left : 0 < present_in mark ws
      → 2 * apart (exact_total 23 8 l (totals_of l.width cs)) (readings_total 23 8 mark ws) < 2 * units_left xs l cs + (totals_of l.width cs).count * 2 ^ l.exponent
  pub nothing_present : present_in mark ws ≡ 0 → exact_total 23 8 l (totals_of l.width cs) ≡ readings_total 23 8 mark ws

-- ---- "Yearly totals are read from packed layers": what is promised of all layers together, each of L codes

-- a total of each layer, added up
unfoldable pub over_layers : (Layer → List ℕ → ℕ) → ℕ → List Layer → List ℕ → ℕ
over_layers f L ls cs = in_order_sum (λ n. n) (zip_with f ls (layers L cs))

-- the exact totals of the layers, added up
unfoldable pub year_total : ℕ → List Layer → List ℕ → ℤ
year_total L ls cs = signed_sum (λ z. z) (zip_with (λ l part. exact_total 23 8 l (totals_of l.width part)) ls (layers L cs))

-- count times the step of each layer, added up
abbrev pub year_steps : ℕ → List Layer → List ℕ → ℕ
year_steps L ls cs = over_layers (λ l part. (totals_of l.width part).count * 2 ^ l.exponent) L ls cs

-- of the readings before they were trimmed
pub record YearSent (xs : List Method) (mark L : ℕ) (ls : List Layer) (cs ws : List ℕ) : Type 0 where
  pub near : 0 < present_in mark ws → 2 * apart (year_total L ls cs) (readings_total 23 8 mark ws) < 2 * units_total 23 8 xs mark ws + year_steps L ls cs
  pub near_left : 0 < present_in mark ws → 2 * apart (year_total L ls cs) (readings_total 23 8 mark ws) < 2 * over_layers (units_left xs) L ls cs + year_steps L ls cs

-- part j of an array in layers of L
abbrev pub part_at : ℕ → ℕ → List ℕ → List ℕ
part_at L j xs = take L (drop (j * L) xs)

pub record TotalsClaim : Type 0 where
  -- "count times R plus sum times 2^E" is what the codes of a layer mean, nothing rounded: of every layer, however it was made
  pub exact : (l : Layer) (cs : List ℕ) → exact_total 23 8 l (totals_of l.width cs) ≡ meanings_total 23 8 l cs
  -- of every packing that is accepted: layer by layer, and the year as a whole
  pub each_layer : (mark L : ℕ) (widths ws codes references : List ℕ) (exponents : List ℤ)
      → let p = pack mark L widths ws codes references exponents in
      p.answer ≡ accepted tt → (j : ℕ) → j < length ws / L
      → LayerTotal mark (layer_at widths p.references p.exponents j) (part_at L j p.codes) (part_at L j ws)
  pub year : (mark L : ℕ) (widths ws codes references : List ℕ) (exponents : List ℤ)
      → let p = pack mark L widths ws codes references exponents in
      let ls = stored_layers widths p.references p.exponents in
      p.answer ≡ accepted tt → 2 * apart (year_total L ls p.codes) (readings_total 23 8 mark ws) ≤ year_steps L ls p.codes
  -- and after a list of trims as in demand 3, of the readings that it began with
  pub each_layer_sent : (cs : List Call) (mark : ℕ) (ws : List ℕ) → 0 < length (accepted_calls 23 8 cs) → one_kind (accepted_calls 23 8 cs) ≡ true
      → (L : ℕ) (widths codes references : List ℕ) (exponents : List ℤ)
      → let p = pack mark L widths (in_turn 23 8 cs mark ws) codes references exponents in
      p.answer ≡ accepted tt → (j : ℕ) → j < length ws / L
      → SentTotal (accepted_calls 23 8 cs) mark (layer_at widths p.references p.exponents j) (part_at L j p.codes) (part_at L j ws)
  pub year_sent : (cs : List Call) (mark : ℕ) (ws : List ℕ) → 0 < length (accepted_calls 23 8 cs) → one_kind (accepted_calls 23 8 cs) ≡ true
      → (L : ℕ) (widths codes references : List ℕ) (exponents : List ℤ)
      → let p = pack mark L widths (in_turn 23 8 cs mark ws) codes references exponents in
      p.answer ≡ accepted tt → YearSent (accepted_calls 23 8 cs) mark L (stored_layers widths p.references p.exponents) p.codes ws
