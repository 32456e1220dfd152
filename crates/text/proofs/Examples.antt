-- Examples of papers 01 and 02, and numbers at the ends of their ranges. Assumes nothing.
use mathlib.Core.Path.{◌≡◌, refl}
use mathlib.Core.List.{[], ◌∷◌, ◌++◌, map}
use Prim.Native.Nat.{◌^◌, ◌-◌}
use lib.ListN.{replicate}
use Rattle.words.specs.Signed.{signed_of}
use Rattle.decimal.specs.Decimal.{ascii, digits, decimal, signed_text}
use Rattle.text.specs.Text.{after_commas, joined, holders_from, holders, holder_text}
use Rattle.text.specs.Text.{head_line, refused_line, job_line, open_line, declined_line}

-- "10 open 3/2 -3,2" and "11 6 - -", of words of 3 bits
job-10 : open_line 10 4 (255 ∷ 255 ∷ 2 ∷ replicate 61 255) (map (signed_of 3) (5 ∷ 2 ∷ [])) ≡ ascii "10 open 3/2 -3,2\n"
unfolding digits decimal signed_text after_commas joined holders_from holders holder_text job_line open_line signed_of
job-10 = refl

job-11 : declined_line 11 6 ≡ ascii "11 6 - -\n"
unfolding digits decimal joined job_line declined_line
job-11 = refl

-- nobody wrong, and the numbers 0 and 2^64 - 1
job-0 : open_line 0 0 (replicate 64 255) (map (signed_of 64) (0 ∷ 2 ^ 63 ∷ [])) ≡ ascii "0 open - 0,-9223372036854775808\n"
unfolding digits decimal signed_text after_commas joined holders_from holders holder_text job_line open_line signed_of
job-0 = refl

job-last : open_line (2 ^ 64 - 1) (2 ^ 63 - 1) (0 ∷ replicate 62 63 ++ 255 ∷ []) (map (signed_of 64) ((2 ^ 64 - 1) ∷ (2 ^ 63 - 1) ∷ []))
    ≡ ascii "18446744073709551615 open 1/0,2/63,3/63,4/63,5/63,6/63,7/63,8/63,9/63,10/63,11/63,12/63,13/63,14/63,15/63,"
    ++ ascii "16/63,17/63,18/63,19/63,20/63,21/63,22/63,23/63,24/63,25/63,26/63,27/63,28/63,29/63,30/63,31/63,32/63,33/63,"
    ++ ascii "34/63,35/63,36/63,37/63,38/63,39/63,40/63,41/63,42/63,43/63,44/63,45/63,46/63,47/63,48/63,49/63,50/63,51/63,"
    ++ ascii "52/63,53/63,54/63,55/63,56/63,57/63,58/63,59/63,60/63,61/63,62/63,63/63 -1,9223372036854775807\n"
unfolding digits decimal signed_text after_commas joined holders_from holders holder_text job_line open_line signed_of
job-last = refl

-- a number of 128 bits
decimal-128 : decimal (2 ^ 128 - 1) ≡ ascii "340282366920938463463374607431768211455"
unfolding digits decimal
decimal-128 = refl

head : head_line
    ≡ 106 ∷ 111 ∷ 98 ∷ 32 ∷ 115 ∷ 116 ∷ 97 ∷ 116 ∷ 101 ∷ 32 ∷ 119 ∷ 114 ∷ 111 ∷ 110 ∷ 103 ∷ 32 ∷ 119 ∷ 111 ∷ 114 ∷ 100 ∷ 115 ∷ 10 ∷ []
head = refl

refused-8 : refused_line 8 ≡ ascii "refused 8\n"
unfolding digits decimal refused_line
refused-8 = refl
