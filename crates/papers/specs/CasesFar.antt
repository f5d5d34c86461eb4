-- How far a figure may stand from what was sent, worked out for lists of calls: a table that a test outside reads, one row to a line, with plain numbers. Each row is computed
-- by the definitions. Of a setting or an exponent `neg 5` is -5; patterns are given as numbers, and u is an exponent counted from that of the least spacing.
use Rattle.std.specs.Prelude.{◌≡◌, Bool, true, not, ◌&&◌, List, [], ◌∷◌, ℕ, suc, ◌+◌, ◌/◌, ◌%◌, ◌^◌, ltb, eqb, ℤ, pos, neg_ℤ, length}
use Rattle.meaning.specs.Readings.{size, magnitude, finite, magnitude_of, origin, distance}
use Rattle.meaning.specs.Methods.{Method}
use Rattle.meaning.specs.Layers.{Layer, missing_code, code_meaning}
use Rattle.meaning.specs.Questions.{all, width_in_range, exponent_in_range}
use Rattle.meaning.specs.Calls.{Call, accepted_calls, largest_unit, stored_layer}
use Rattle.meaning.specs.Claim.{one_kind}

-- a call as it is asked: method and setting
abbrev pub call : ℕ → ℤ → Call
call method setting = record { method = method; setting = setting }

abbrev pub neg : ℕ → ℤ
neg n = neg_ℤ (pos n)

pub data Row : Type 0 where
  -- F, X, the calls, the pattern left, u: the largest unit of the accepted calls there is 2 ^ u (`near_left` of `Kept`)
  far : ℕ → ℕ → List Call → ℕ → ℕ → Row
  -- F, X, the calls: demand 3 gives no bound
  none : ℕ → ℕ → List Call → Row
  -- the calls, the layer's width, R, E, the code, u: the largest unit at the size that this code and step can stand for is 2 ^ u (`near_left` of `Coded`); half a step is to be
  -- added
  packed : List Call → ℕ → ℕ → ℤ → ℕ → ℕ → Row
  -- F, X, the pattern left, u: the lowest one bit of the size left is 2 ^ u (`lowest_bit` of one digits call)
  bit : ℕ → ℕ → ℕ → ℕ → Row

-- at least one accepted call, and all of one kind
unfoldable pub bounded : List Method → Bool
bounded xs = ltb 0 (length xs) && one_kind xs

-- the largest size that a code of a layer can stand for
unfoldable pub most_of : Layer → ℕ → ℕ
most_of l c = distance (code_meaning 23 8 l c) (origin 23 8) + 2 ^ l.exponent / 2

unfoldable pub right : Row → Bool
right (far F X cs left u) = bounded (accepted_calls F X cs) && finite F X left && eqb (largest_unit F (accepted_calls F X cs) (magnitude F X left)) (2 ^ u)
right (none F X cs) = not (bounded (accepted_calls F X cs))
right (packed cs w r e c u) =
    bounded (accepted_calls 23 8 cs) && width_in_range w && finite 23 8 r && exponent_in_range e && ltb c (missing_code w)
    && eqb (largest_unit 23 (accepted_calls 23 8 cs) (magnitude_of 23 8 (most_of (stored_layer w r e) c))) (2 ^ u)
right (bit F X left u) = finite F X left && eqb (size F (magnitude F X left) % 2 ^ suc u) (2 ^ u)

unfoldable pub table : List Row
table =
    far 23 8 (call 4 (pos 9) ∷ call 4 (pos 7) ∷ []) 1065353215 141
    ∷ far 23 8 (call 4 (pos 9) ∷ call 4 (pos 7) ∷ []) 1073741824 143
    ∷ far 23 8 (call 0 (pos 0) ∷ []) 0 23
    ∷ far 23 8 (call 1 (pos 23) ∷ []) 1 0
    ∷ far 23 8 (call 2 (pos 5) ∷ []) 8388607 18
    ∷ far 23 8 (call 3 (pos 0) ∷ []) 2139095039 276
    ∷ far 23 8 (call 4 (pos 0) ∷ []) 4286578687 276
    ∷ far 23 8 (call 5 (neg 149) ∷ []) 2139095039 0
    ∷ far 23 8 (call 5 (pos 127) ∷ []) 2147483648 276
    ∷ far 23 8 (call 5 (pos 0) ∷ call 4 (pos 7) ∷ []) 1065353216 149
    ∷ far 23 8 (call 5 (neg 7) ∷ call 4 (pos 7) ∷ []) 1065353216 142
    ∷ far 23 8 (call 5 (neg 8) ∷ call 4 (pos 7) ∷ []) 1065353216 142
    ∷ far 23 8 (call 0 (pos 24) ∷ call 4 (pos 7) ∷ []) 1065353216 142
    ∷ far 23 8 (call 6 (pos 0) ∷ call 4 (pos 11) ∷ call 6 (pos 8) ∷ []) 1065353216 138
    ∷ far 23 8 (call 4 (neg 1) ∷ call 0 (pos 11) ∷ call 5 (pos 128) ∷ []) 1065353216 138
    ∷ far 23 8 (call 2 (pos 23) ∷ []) 8388608 0
    ∷ far 23 8 (call 5 (neg 21) ∷ call 4 (pos 11) ∷ call 4 (pos 7) ∷ call 5 (pos 16) ∷ []) 3129944578 165
    ∷ far 23 8 (call 2 (pos 53) ∷ call 7 (pos 3) ∷ call 1 (pos 7) ∷ []) 3678094556 197
    ∷ far 23 8 (call 1 (pos 11) ∷ []) 1073741824 139
    ∷ far 23 8 (call 5 (neg 2147483648) ∷ call 2 (pos 53) ∷ call 5 (neg 7) ∷ []) 1349651933 142
    ∷ far 23 8 (call 7 (pos 3) ∷ call 4 (pos 9) ∷ call 4 (pos 9) ∷ call 5 (pos 4) ∷ call 5 (pos 119) ∷ []) 866236496 268
    ∷ far 23 8 (call 5 (neg 26) ∷ []) 8388608 123
    ∷ far 23 8 (call 2 (pos 9) ∷ call 0 (pos 23) ∷ call 2 (pos 11) ∷ call 0 (pos 11) ∷ []) 1393184961 179
    ∷ far 23 8 (call 5 (pos 17) ∷ call 6 (pos 0) ∷ call 5 (neg 2147483648) ∷ call 5 (pos 13) ∷ call 5 (pos 14) ∷ call 5 (neg 14) ∷ []) 99631463 166
    ∷ far 23 8 (call 5 (neg 15) ∷ call 4 (pos 23) ∷ call 4 (pos 7) ∷ call 4 (pos 11) ∷ []) 8388608 134
    ∷ far 23 8 (call 0 (pos 5) ∷ []) 2271433653 31
    ∷ far 23 8 (call 0 (pos 23) ∷ call 3 (pos 7) ∷ call 1 (pos 5) ∷ call 5 (neg 2147483648) ∷ call 4294967295 (neg 1) ∷ []) 759194207 107
    ∷ far 23 8 (call 4 (pos 7) ∷ call 0 (neg 1) ∷ call 7 (pos 3) ∷ call 5 (neg 17) ∷ call 4 (pos 7) ∷ []) 1065353216 142
    ∷ far 23 8 (call 1 (pos 5) ∷ []) 3481250787 175
    ∷ far 23 8 (call 4 (pos 11) ∷ []) 2384819903 39
    ∷ far 52 11 (call 4 (pos 9) ∷ call 4 (pos 7) ∷ []) 4607182418800017407 1066
    ∷ far 52 11 (call 4 (pos 9) ∷ call 4 (pos 7) ∷ []) 4611686018427387904 1068
    ∷ far 52 11 (call 0 (pos 0) ∷ []) 0 52
    ∷ far 52 11 (call 1 (pos 52) ∷ []) 1 0
    ∷ far 52 11 (call 2 (pos 5) ∷ []) 4503599627370495 47
    ∷ far 52 11 (call 3 (pos 0) ∷ []) 9218868437227405311 2097
    ∷ far 52 11 (call 4 (pos 0) ∷ []) 18442240474082181119 2097
    ∷ far 52 11 (call 5 (neg 1074) ∷ []) 9218868437227405311 0
    ∷ far 52 11 (call 5 (pos 1023) ∷ []) 9223372036854775808 2097
    ∷ far 52 11 (call 5 (pos 0) ∷ call 4 (pos 7) ∷ []) 4607182418800017408 1074
    ∷ far 52 11 (call 5 (neg 7) ∷ call 4 (pos 7) ∷ []) 4607182418800017408 1067
    ∷ far 52 11 (call 5 (neg 8) ∷ call 4 (pos 7) ∷ []) 4607182418800017408 1067
    ∷ far 52 11 (call 0 (pos 53) ∷ call 4 (pos 7) ∷ []) 4607182418800017408 1067
    ∷ far 52 11 (call 6 (pos 0) ∷ call 4 (pos 11) ∷ call 6 (pos 16) ∷ []) 4607182418800017408 1063
    ∷ far 52 11 (call 4 (neg 1) ∷ call 0 (pos 11) ∷ call 5 (pos 1024) ∷ []) 4607182418800017408 1063
    ∷ far 52 11 (call 1 (pos 9) ∷ call 3 (neg 5) ∷ []) 0 43
    ∷ far 52 11 (call 0 (pos 17) ∷ call 3 (pos 9) ∷ []) 13591986918610515254 1012
    ∷ far 52 11 (call 6 (pos 0) ∷ call 5 (pos 1024) ∷ call 4 (pos 23) ∷ call 5 (pos 10) ∷ call 4 (pos 0) ∷ []) 906121760366494107 1084
    ∷ far 52 11 (call 5 (neg 1074) ∷ call 2 (pos 53) ∷ []) 9218868437227405311 0
    ∷ far 52 11 (call 1 (pos 5) ∷ []) 11630821666648991103 580
    ∷ far 52 11 (call 4294967295 (neg 1) ∷ call 2 (pos 11) ∷ call 0 (pos 9) ∷ call 3 (neg 5) ∷ []) 9695272201521802371 146
    ∷ far 52 11 (call 4294967295 (neg 1) ∷ call 4 (pos 11) ∷ call 5 (pos 1024) ∷ call 5 (pos 11) ∷ []) 4607182418800017407 1085
    ∷ far 52 11 (call 3 (pos 52) ∷ call 2 (pos 5) ∷ call 2 (pos 11) ∷ []) 7888940571577090650 1797
    ∷ far 52 11 (call 4 (pos 9) ∷ call 7 (pos 3) ∷ []) 7620022413976587583 1733
    ∷ far 52 11 (call 1 (pos 52) ∷ call 0 (pos 0) ∷ call 0 (pos 5) ∷ call 3 (pos 5) ∷ []) 9218868437227405311 2097
    ∷ far 52 11 (call 5 (neg 1074) ∷ call 5 (neg 2147483648) ∷ call 3 (neg 5) ∷ []) 1685347099229736749 0
    ∷ far 52 11 (call 4 (pos 9) ∷ call 7 (pos 3) ∷ call 1 (pos 53) ∷ []) 16567658771835148600 1672
    ∷ far 52 11 (call 4 (pos 53) ∷ call 0 (pos 39) ∷ []) 1 13
    ∷ far 52 11 (call 4 (pos 5) ∷ []) 11669023703698971483 589
    ∷ far 52 11 (call 3 (pos 11) ∷ call 1 (pos 53) ∷ call 0 (pos 7) ∷ call 3 (neg 5) ∷ []) 6715935686176215142 1535
    ∷ none 23 8 ([])
    ∷ none 23 8 (call 7 (pos 3) ∷ [])
    ∷ none 23 8 (call 4 (pos 24) ∷ call 5 (pos 128) ∷ call 6 (pos 0) ∷ [])
    ∷ none 23 8 (call 4 (pos 7) ∷ call 0 (pos 7) ∷ [])
    ∷ none 23 8 (call 3 (pos 9) ∷ call 5 (pos 0) ∷ [])
    ∷ none 23 8 (call 6 (pos 3) ∷ [])
    ∷ none 23 8 (call 4 (pos 9) ∷ call 6 (pos 7) ∷ call 4 (pos 7) ∷ [])
    ∷ none 23 8 (call 5 (pos 3) ∷ call 2 (pos 0) ∷ call 7 (pos 0) ∷ call 5 (pos 4) ∷ [])
    ∷ none 52 11 ([])
    ∷ none 52 11 (call 7 (pos 3) ∷ [])
    ∷ none 52 11 (call 4 (pos 53) ∷ call 5 (pos 1024) ∷ call 6 (pos 0) ∷ [])
    ∷ none 52 11 (call 4 (pos 7) ∷ call 0 (pos 7) ∷ [])
    ∷ none 52 11 (call 3 (pos 9) ∷ call 5 (pos 0) ∷ [])
    ∷ none 52 11 (call 6 (pos 3) ∷ [])
    ∷ none 52 11 (call 4 (pos 9) ∷ call 6 (pos 7) ∷ call 4 (pos 7) ∷ [])
    ∷ none 52 11 (call 5 (pos 3) ∷ call 2 (pos 0) ∷ call 7 (pos 0) ∷ call 5 (pos 4) ∷ [])
    ∷ none 52 11 (call 4 (pos 7) ∷ call 6 (pos 8) ∷ [])
    ∷ none 23 8 (call 0 (pos 24) ∷ call 1 (neg 1) ∷ call 2 (pos 24) ∷ call 3 (pos 100) ∷ call 255 (pos 0) ∷ call 6 (pos 8) ∷ [])
    ∷ packed (call 4 (pos 8) ∷ call 4 (pos 7) ∷ []) 16 1023410176 (neg 5) 32 142
    ∷ packed (call 4 (pos 7) ∷ []) 16 1092616192 (neg 14) 8192 145
    ∷ packed (call 0 (pos 23) ∷ []) 16 0 (neg 149) 65534 0
    ∷ packed (call 4 (pos 7) ∷ []) 16 3240099840 (neg 5) 320 136
    ∷ packed (call 4 (pos 7) ∷ []) 16 3212836864 (pos 0) 2 142
    ∷ packed (call 1 (pos 5) ∷ []) 16 1065353215 (neg 23) 0 144
    ∷ packed (call 1 (pos 5) ∷ []) 16 1065353215 (neg 24) 0 143
    ∷ packed (call 5 (pos 127) ∷ []) 16 4286578687 (pos 114) 32768 276
    ∷ packed (call 5 (neg 149) ∷ call 4 (pos 23) ∷ []) 16 4286578687 (pos 114) 0 254
    ∷ packed (call 4 (pos 5) ∷ call 5 (pos 0) ∷ []) 16 1 (pos 114) 65534 273
    ∷ packed (call 2 (pos 5) ∷ call 7 (pos 3) ∷ call 3 (pos 9) ∷ []) 16 2147483648 (neg 45) 14681 112
    ∷ packed (call 5 (neg 149) ∷ call 4 (pos 0) ∷ call 4 (pos 5) ∷ []) 16 1023410176 (neg 14) 1 144
    ∷ packed (call 4 (pos 12) ∷ call 4 (pos 9) ∷ []) 16 2738464021 (neg 130) 64856 83
    ∷ packed (call 4 (pos 2) ∷ []) 16 3271426048 (neg 27) 32768 153
    ∷ packed (call 3 (pos 7) ∷ call 2 (pos 11) ∷ call 2 (pos 16) ∷ []) 16 1 (neg 149) 1 16
    ∷ packed (call 1 (pos 7) ∷ []) 16 3240099840 (pos 114) 65534 271
    ∷ packed (call 3 (pos 0) ∷ call 0 (pos 3) ∷ call 1 (pos 5) ∷ []) 16 1023410176 (neg 126) 65534 144
    ∷ packed (call 3 (pos 23) ∷ call 2 (pos 9) ∷ call 2 (pos 23) ∷ []) 16 723418909 (neg 89) 42696 99
    ∷ packed (call 5 (neg 150) ∷ call 4 (pos 23) ∷ call 4 (pos 23) ∷ []) 16 3752968828 (neg 89) 1 190
    ∷ packed (call 7 (pos 3) ∷ call 4 (pos 5) ∷ []) 16 3580391257 (neg 24) 0 187
    ∷ packed (call 5 (neg 19) ∷ []) 16 0 (pos 65) 30003 130
    ∷ packed (call 1 (pos 7) ∷ call 3 (pos 7) ∷ call 1 (pos 23) ∷ []) 16 3240099840 (neg 126) 1 145
    ∷ packed (call 5 (neg 149) ∷ []) 16 962590687 (pos 31) 8192 0
    ∷ packed (call 4 (pos 13) ∷ call 4 (pos 0) ∷ call 4 (pos 5) ∷ []) 16 2139095039 (neg 20) 374 276
    ∷ packed (call 5 (neg 4) ∷ call 5 (neg 149) ∷ []) 16 2360173062 (neg 126) 4023 145
    ∷ packed (call 5 (pos 128) ∷ call 3 (pos 5) ∷ call 0 (pos 11) ∷ call 3 (pos 0) ∷ []) 16 1896581598 (pos 96) 8192 258
    ∷ packed (call 4 (pos 7) ∷ []) 2 1092616192 (pos 0) 2 145
    ∷ packed (call 4 (pos 7) ∷ call 4 (pos 5) ∷ []) 4 1092616192 (neg 2) 8 147
    ∷ packed (call 0 (pos 5) ∷ call 2 (pos 9) ∷ []) 8 1092616192 (neg 6) 32 147
    ∷ packed (call 5 (neg 3) ∷ call 4 (pos 11) ∷ []) 15 1092616192 (neg 13) 16384 146
    ∷ packed (call 4 (pos 7) ∷ []) 2 4286578687 (pos 128) 0 270
    ∷ packed (call 5 (pos 127) ∷ []) 2 4286578687 (pos 128) 1 276
    ∷ packed (call 4 (pos 0) ∷ call 5 (neg 149) ∷ []) 2 4286578687 (pos 128) 2 277
    ∷ packed (call 1 (pos 5) ∷ call 3 (pos 9) ∷ []) 4 4286578687 (pos 126) 8 272
    ∷ packed (call 4 (pos 9) ∷ call 4 (pos 53) ∷ []) 8 4286578687 (pos 122) 128 268
    ∷ packed (call 4 (pos 12) ∷ []) 15 4286578687 (pos 115) 16384 265
    ∷ packed (call 0 (pos 0) ∷ []) 2 0 (neg 149) 2 23
    ∷ packed (call 2 (pos 7) ∷ []) 4 1023410176 (neg 5) 14 140
    ∷ packed (call 5 (pos 0) ∷ call 7 (pos 3) ∷ call 4 (pos 9) ∷ []) 8 3240099840 (neg 3) 254 149
    ∷ packed (call 3 (pos 3) ∷ []) 15 1 (neg 149) 32766 20
    ∷ packed (call 4 (pos 23) ∷ []) 2 1 (neg 89) 1 37
    ∷ packed (call 1 (pos 23) ∷ call 0 (pos 20) ∷ []) 15 2147483649 (pos 60) 3 190
    ∷ packed (call 4 (pos 4) ∷ []) 2 2139095039 (pos 128) 2 274
    ∷ packed (call 4 (pos 7) ∷ []) 16 4286578687 (pos 128) 1 269
    ∷ packed (call 5 (neg 20) ∷ []) 3 3296329728 (pos 8) 5 129
    ∷ packed (call 4 (pos 23) ∷ []) 5 1065353216 (neg 28) 17 126
    ∷ packed (call 2 (pos 0) ∷ []) 12 8388608 (neg 130) 4094 31
    ∷ bit 23 8 1 0
    ∷ bit 23 8 8388607 0
    ∷ bit 23 8 8388608 23
    ∷ bit 23 8 1065353216 149
    ∷ bit 23 8 1065353215 125
    ∷ bit 23 8 2139095039 253
    ∷ bit 23 8 4286578687 253
    ∷ bit 23 8 2130706432 276
    ∷ bit 23 8 1523128320 191
    ∷ bit 23 8 1795061760 223
    ∷ bit 52 11 1 0
    ∷ bit 52 11 4503599627370495 0
    ∷ bit 52 11 4503599627370496 52
    ∷ bit 52 11 4607182418800017408 1074
    ∷ bit 52 11 4607182418800017407 1021
    ∷ bit 52 11 9218868437227405311 2045
    ∷ bit 52 11 18442240474082181119 2045
    ∷ bit 52 11 9214364837600034816 2097
    ∷ bit 52 11 2966746254530314240 707
    ∷ bit 52 11 13492784483602006016 999
    ∷ bit 23 8 1080033280 148
    ∷ bit 23 8 1119879168 154
    ∷ bit 23 8 1036517376 141
    ∷ []

pub record FarCases : Type 0 where
  pub rows_right : all right table ≡ true
