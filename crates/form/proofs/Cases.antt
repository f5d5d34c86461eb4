-- Document 01's own listing byte for byte, with the two columns of document 02 (a), then each method's word, each bound of the form and each refusal, as one
-- table about the definitions. Each row is proved by computing it. From the second row on the header stands before each text, and the heading before the counts.
use mathlib.Core.Path.{refl}
use Rattle.form.proofs.CasesRows.{Prints, Lists, Repeats, Refuses, Many}

pub record Listings : Type 0 where
  own :
      Prints
      "method,setting,mark\nround,7,7CF00000\nrain,ozone\n40490FDB,7CF00000\n7CF00001,3F800000\n"
      "rain,ozone\n40490000,7CF00000\n7CF00001,3F800000\nchanged,spared,clipped,missing,risen,fallen\n1,1,0,0,0,1\n0,0,0,1,0,0\n"
  -- "the known words are the seven methods' names"
  shave : Lists "shave,7,7CF00000\na\n40490FDB\n" "a\n40490000\n" "1,0,0,0,0,1\n"
  set : Lists "set,7,7CF00000\na\n40490FDB\n" "a\n4049FFFF\n" "1,0,0,0,1,0\n"
  -- "Each series is one array": its places are its lines
  groom : Lists "groom,7,7CF00000\na,b\n40490FDB,40490FDB\n40490FDB,40490FDB\n" "a,b\n40490000,40490000\n4049FFFF,4049FFFF\n" "2,0,0,0,1,1\n2,0,0,0,1,1\n"
  halfshave : Lists "halfshave,7,7CF00000\na\n40490FDB\n" "a\n40498000\n" "1,0,0,0,1,0\n"
  round : Lists "round,7,7CF00000\na\n7F7FFFFF\n" "a\n7F7F0000\n" "1,0,1,0,0,1\n"
  absolute : Lists "absolute,-1,7CF00000\na\n40490FDB\n" "a\n40400000\n" "1,0,0,0,0,1\n"
  digits : Lists "digits,3,7CF00000\na\n40490FDB\n" "a\n40494000\n" "1,0,0,0,1,0\n"
  -- document 02 (a): "whether the exact value rose, fell or stayed". A negative reading that is shaved rises, and so does one that becomes -0
  negative : Lists "shave,7,7CF00000\na\nC0490FDB\n" "a\nC0490000\n" "1,0,0,0,1,0\n"
  minus_half : Lists "absolute,0,7CF00000\na\nBF000000\nBFE00000\n" "a\n80000000\nC0000000\n" "2,0,0,0,1,1\n"
  -- "an optional minus, 1 to 4 digits, leading zeros allowed"
  zeros : Lists "shave,0007,7CF00000\na\n40490FDB\n" "a\n40490000\n" "1,0,0,0,0,1\n"
  minus_zero : Lists "round,-0,7CF00000\na\n40490FDB\n" "a\n40800000\n" "1,0,0,0,1,0\n"
  -- "1 to 8 series names (1 to 16 letters a to z each)", "Names may repeat", "0 to 512 lines"
  no_lines : Lists "round,7,7CF00000\na\n" "a\n" "0,0,0,0,0,0\n"
  eight : Lists "round,7,7CF00000\na,z,a,a,a,a,a,abcdefghijklmnop\n" "a,z,a,a,a,a,a,abcdefghijklmnop\n" "0,0,0,0,0,0\n0,0,0,0,0,0\n0,0,0,0,0,0\n0,0,0,0,0,0\n0,0,0,0,0,0\n0,0,0,0,0,0\n0,0,0,0,0,0\n0,0,0,0,0,0\n"
  most : Repeats "shave,7,7CF00000\na\n" 512 "40490FDB\n" "a\n" "40490000\n" "512,0,0,0,0,512\n"
  -- "does the text have the form above ..? No: 9": the header
  nothing : Prints "" "refused,9\n"
  no_header : Prints "round,7,7CF00000\na\n" "refused,9\n"
  header_alone : Prints "method,setting,mark\n" "refused,9\n"
  -- the method word, of 1 to 16 letters
  no_word : Refuses "9" ",7,7CF00000\na\n"
  capital_word : Refuses "9" "Round,7,7CF00000\na\n"
  long_word : Refuses "9" "abcdefghijklmnopq,7,7CF00000\na\n"
  -- the setting
  no_digit : Refuses "9" "round,,7CF00000\na\n"
  minus_alone : Refuses "9" "round,-,7CF00000\na\n"
  plus : Refuses "9" "round,+7,7CF00000\na\n"
  five_digits : Refuses "9" "round,00007,7CF00000\na\n"
  -- the mark and the values, "8 digits with A to F in capitals"
  lower_mark : Refuses "9" "round,7,7cF00000\na\n"
  short_mark : Refuses "9" "round,7,7CF0000\na\n"
  lower_value : Refuses "9" "round,7,7CF00000\na\n40490FDb\n"
  digit_g : Refuses "9" "round,7,7CF00000\na\n40490FDG\n"
  long_value : Refuses "9" "round,7,7CF00000\na\n40490FDB0\n"
  -- the names
  no_name : Refuses "9" "round,7,7CF00000\n\n"
  empty_name : Refuses "9" "round,7,7CF00000\na,\n"
  capital_name : Refuses "9" "round,7,7CF00000\nA\n"
  long_name : Refuses "9" "round,7,7CF00000\nabcdefghijklmnopq\n"
  nine : Refuses "9" "round,7,7CF00000\na,a,a,a,a,a,a,a,a\n"
  -- the lines, each of as many values as there are names
  few_values : Refuses "9" "round,7,7CF00000\na,b\n40490FDB\n"
  many_values : Refuses "9" "round,7,7CF00000\na\n40490FDB,40490FDB\n"
  too_many : Many "shave,7,7CF00000\na\n" 513 "40490FDB\n" "9"
  -- "Fields are parted by one comma, each line ends in one newline and nothing follows."
  two_commas : Refuses "9" "round,7,7CF00000\na,,b\n"
  space : Refuses "9" "round, 7,7CF00000\na\n"
  return : Refuses "9" "round,7,7CF00000\r\na\r\n"
  no_end : Refuses "9" "round,7,7CF00000\na\n40490FDB"
  second_end : Refuses "9" "round,7,7CF00000\na\n40490FDB\n\n"
  -- "is .. its word known? No: 1." 9 is put before 1, and 1 before 2
  unknown : Refuses "1" "rounded,7,7CF00000\na\n40490FDB\n"
  start_of_word : Refuses "1" "roun,7,7CF00000\na\n40490FDB\n"
  nine_first : Refuses "9" "rounded,9999,7CF00000\na\n40490FDB"
  one_first : Refuses "1" "rounded,9999,7CF00000\na\n40490FDB\n"
  -- "is the setting in range? No: 2."
  keep_bits : Refuses "2" "round,24,7CF00000\na\n40490FDB\n"
  below : Refuses "2" "shave,-1,7CF00000\na\n40490FDB\n"
  exponent : Refuses "2" "absolute,-150,7CF00000\na\n40490FDB\n"
  no_digits : Refuses "2" "digits,0,7CF00000\na\n"

pub listings : Listings
unfolding Prints Lists Repeats Refuses Many
listings =
    record {
      own = refl;
      shave = refl;
      set = refl;
      groom = refl;
      halfshave = refl;
      round = refl;
      absolute = refl;
      digits = refl;
      negative = refl;
      minus_half = refl;
      zeros = refl;
      minus_zero = refl;
      no_lines = refl;
      eight = refl;
      most = refl;
      nothing = refl;
      no_header = refl;
      header_alone = refl;
      no_word = refl;
      capital_word = refl;
      long_word = refl;
      no_digit = refl;
      minus_alone = refl;
      plus = refl;
      five_digits = refl;
      lower_mark = refl;
      short_mark = refl;
      lower_value = refl;
      digit_g = refl;
      long_value = refl;
      no_name = refl;
      empty_name = refl;
      capital_name = refl;
      long_name = refl;
      nine = refl;
      few_values = refl;
      many_values = refl;
      too_many = refl;
      two_commas = refl;
      space = refl;
      return = refl;
      no_end = refl;
      second_end = refl;
      unknown = refl;
      start_of_word = refl;
      nine_first = refl;
      one_first = refl;
      keep_bits = refl;
      below = refl;
      exponent = refl;
      no_digits = refl;
    }
