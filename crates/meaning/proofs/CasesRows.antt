-- What the rows of the tables of cases are made of: calls by their methods' names, and what they answer and leave. All of it computes.
use mathlib.Core.List.{List, [], ◌∷◌, map, zip_with, flatten}
use Prim.Native.Nat.{ℕ, ◌/◌}
use lib.IntN.{ℤ, pos}
use lib.ListN.{length, get_or, replicate}
use Rattle.meaning.specs.Readings
use Rattle.meaning.specs.Methods
use Rattle.meaning.specs.Methods.{Counts}
use Rattle.meaning.specs.Layers
use Rattle.meaning.specs.Layers.{Summary}
use Rattle.meaning.specs.Questions
use Rattle.meaning.specs.Questions.{Outcome, refused, accepted, trim_questions, pack_questions, unpack_questions}
use Rattle.meaning.specs.Calls
use Rattle.meaning.specs.Calls.{Call, AfterPack, AfterUnpack, in_turn, trim, loader, pack, unpack}
use Rattle.meaning.specs.Comparing
use Rattle.meaning.specs.Comparing.{Compared, none, at, first_beyond}

abbrev pub call : ℕ → ℤ → Call
call n s = record { method = n; setting = s }

abbrev pub shave : ℕ → Call
shave s = call 0 (pos s)

abbrev pub set : ℕ → Call
set s = call 1 (pos s)

abbrev pub groom : ℕ → Call
groom s = call 2 (pos s)

abbrev pub halfshave : ℕ → Call
halfshave s = call 3 (pos s)

abbrev pub round : ℕ → Call
round s = call 4 (pos s)

abbrev pub absolute : ℕ → Call
absolute s = call 5 (pos s)

abbrev pub digits : ℕ → Call
digits s = call 6 (pos s)

-- what a list of calls leaves of an array
unfoldable pub after_all : ℕ → ℕ → ℕ → List Call → List ℕ → List ℕ
unfolding Readings.exponent_field Readings.fraction Readings.size Readings.spacing_exp Readings.spacing Readings.encode Readings.sign Readings.magnitude Readings.pattern Readings.infinity Readings.finite Readings.magnitude_of Readings.least_exp Readings.origin Readings.position Readings.distance Readings.missing Readings.present Methods.nearest Methods.shaved Methods.tail_set Methods.halfshaved Methods.tail_changed Methods.rounded Methods.digits_from Methods.digit_count Methods.multiple Methods.decade Methods.digit_step Methods.digit_size Methods.clips Methods.absolute_size Methods.new_magnitude Methods.result Methods.trimmable Methods.spared Methods.trimmed Methods.changed Methods.clipped Methods.risen Methods.fallen Methods.unit Methods.turn_after Methods.turns_in Methods.trim_from Methods.count_from Methods.counts Layers.missing_code Layers.last_code Layers.holds Layers.least_from Layers.runs Layers.layers Layers.plus_zero Layers.smaller Layers.larger Layers.widened Layers.summary Layers.smallest Layers.span Layers.layer_of Layers.code Layers.code_meaning Layers.packed_layers Layers.packed_codes Layers.nearest_magnitude Layers.nearest_double Layers.unpacked_code Layers.unpacked_codes Questions.ask Questions.above Questions.all Questions.setting_in_range Questions.method_of Questions.trim_questions Questions.is_nan Questions.layer_questions Questions.pack_questions Questions.unpack_questions Calls.answering Calls.leaving Calls.trim Calls.loader_number Calls.gain Calls.told Calls.loader Calls.stored_exponent Calls.stored_layer Calls.stored_layers Calls.pack Calls.unpack Calls.in_turn Calls.accepted_calls Calls.largest_unit zip_with flatten
after_all F X mark cs ws = in_turn F X cs mark ws

-- and of one single, with the mark 7CF00000
unfoldable pub after : List Call → ℕ → ℕ
unfolding after_all
after cs w = get_or (after_all 23 8 0x7CF00000 cs (w ∷ [])) 0 0

-- what one call answers: changed, spared, clipped, missing, risen, fallen
abbrev pub counting : ℕ → ℕ → ℕ → ℕ → ℕ → ℕ → Outcome Counts
counting a b c d e f = accepted (record { changed_places = a; spared_places = b; clipped_places = c; missing_places = d; risen_places = e; fallen_places = f })

unfoldable pub answer : ℕ → ℕ → ℕ → Call → List ℕ → Outcome Counts
unfolding after_all
answer F X mark c ws = (trim F X c.method c.setting mark ws).answer

-- the loader's answer for a single at a turn, with the mark 7CF00000
unfoldable pub loads : Call → ℕ → ℕ → ℕ
unfolding after_all
loads c turn w = loader c.method c.setting 0x7CF00000 turn w

-- what a comparison answers, of raw and trimmed readings: the first place and the number read, or none and the number read
unfoldable pub compares : ℕ → ℕ → ℕ → ℤ → List ℕ → List ℕ → Outcome Compared
unfolding after_all Comparing.first_from Comparing.read_up_to Comparing.beyond Comparing.compared Comparing.compare_questions Comparing.first_beyond
compares F X mark p raw trimmed = first_beyond F X mark p raw trimmed

abbrev pub found : ℕ → ℕ → Outcome Compared
found place read = accepted (record { first = at place; read = read })

abbrev pub nothing : ℕ → Outcome Compared
nothing read = accepted (record { first = none; read = read })

-- an outcome by its number alone: 0 where the call is accepted
unfoldable pub number : {A : Type 0} → Outcome A → ℕ
number (refused n) = n
number (accepted a) = 0

-- the numbers that a method's settings get
unfoldable pub settings : ℕ → ℕ → ℕ → List ℤ → List ℕ
unfolding after_all number
settings F X method ss = map (λ s. number (trim_questions F X method s)) ss

-- the number that packing gets; the mark is 7CF00000, and the last three are the lengths of codes, references and exponents
unfoldable pub packing_wide : List ℕ → ℕ → List ℕ → ℕ → ℕ → ℕ → ℕ
unfolding after_all number
packing_wide widths L ws codes references exponents = number (pack_questions 0x7CF00000 L widths ws codes references exponents)

-- the number that unpacking gets; the mark comes first, and the last is the number of doubles
unfoldable pub unpacking_wide : List ℕ → ℕ → ℕ → List ℕ → List ℕ → List ℤ → ℕ → ℕ
unfolding after_all number
unpacking_wide widths mark L cs rs es readings = number (unpack_questions mark L widths cs rs es readings)

-- "The old form is w = 16": the numbers where every layer has that width
abbrev pub packing : ℕ → List ℕ → ℕ → ℕ → ℕ → ℕ
packing L ws = packing_wide (replicate (length ws / L) 16) L ws

abbrev pub unpacking : ℕ → ℕ → List ℕ → List ℕ → List ℤ → ℕ → ℕ
unpacking mark L cs = unpacking_wide (replicate (length cs / L) 16) mark L cs

-- all readings packed as one layer of a width, with the mark 7CF00000: R, E and the codes; and in the old form
unfoldable pub packed_wide : ℕ → List ℕ → AfterPack
unfolding after_all
packed_wide width ws = pack 0x7CF00000 (length ws) (width ∷ []) ws ws (0 ∷ []) (pos 0 ∷ [])

abbrev pub packed : List ℕ → AfterPack
packed = packed_wide 16

abbrev pub layer : ℕ → ℤ → List ℕ → AfterPack
layer r e cs = record { answer = accepted tt; codes = cs; references = r ∷ []; exponents = e ∷ [] }

unfoldable pub summed : List ℕ → Summary
unfolding after_all
summed ws = Layers.summary 23 8 0x7CF00000 ws

-- codes of one layer of a width unpacked, with a NaN as the mark; and in the old form
unfoldable pub unpacked_wide : ℕ → ℕ → ℤ → List ℕ → AfterUnpack
unfolding after_all
unpacked_wide width r e cs = unpack 0x7FF00000_0000ABCD (length cs) (width ∷ []) cs (r ∷ []) (e ∷ []) cs

abbrev pub unpacked : ℕ → ℤ → List ℕ → AfterUnpack
unpacked = unpacked_wide 16

abbrev pub doubles : List ℕ → AfterUnpack
doubles ws = record { answer = accepted tt; readings = ws }
