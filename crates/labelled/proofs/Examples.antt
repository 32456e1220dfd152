-- Texts of some jobs, and texts that are of none. Assumes nothing.
use Rattle.std.proofs.Common.{◌≡◌, ◌-◌, ◌^◌, true, false, [], ◌∷◌, ◌++◌, refl}
use Rattle.words.specs.Signed.{signed_of}
use Rattle.decimal.specs.Decimal.{ascii, digits, decimal, sign, signed_text, hundredths_text}
use Rattle.labelled.specs.JobText.{lines_of, lens_job, text_of}
use Rattle.labelled.specs.Reading.{goes_on, number_from, after_line, scanned, in_range, job_in_range, same_text, is_text_of, is_text}

-- the labs' own book, and the ends of the ranges
job-10 : text_of 16 10 (65211 ∷ 50 ∷ 90 ∷ 218 ∷ []) ≡ ascii "JOB=10\r\nSPH=-3.25\r\nCYL=0.50\r\nAX=90\r\nCTHICK=2.18\r\n"
unfolding digits decimal sign signed_text hundredths_text lines_of lens_job text_of signed_of
job-10 = refl

one_bit : text_of 1 0 (1 ∷ 0 ∷ 1 ∷ 0 ∷ []) ≡ ascii "JOB=0\r\nSPH=-0.01\r\nCYL=0.00\r\nAX=-1\r\nCTHICK=0.00\r\n"
unfolding digits decimal sign signed_text hundredths_text lines_of lens_job text_of signed_of
one_bit = refl

job-last : text_of 64 (2 ^ 64 - 1) (2 ^ 63 ∷ (2 ^ 63 - 1) ∷ 2 ^ 63 ∷ (2 ^ 64 - 5) ∷ [])
    ≡ ascii "JOB=18446744073709551615\r\nSPH=-92233720368547758.08\r\nCYL=92233720368547758.07\r\n"
    ++ ascii "AX=-9223372036854775808\r\nCTHICK=-0.05\r\n"
unfolding digits decimal sign signed_text hundredths_text lines_of lens_job text_of signed_of
job-last = refl

-- "one job has one text"
minus-zero : is_text 16 (ascii "JOB=10\r\nSPH=-0.00\r\nCYL=0.50\r\nAX=90\r\nCTHICK=2.18\r\n") ≡ false
unfolding digits decimal sign signed_text hundredths_text lines_of goes_on number_from after_line scanned in_range job_in_range same_text is_text_of
minus-zero = refl

line-feed : is_text 16 (ascii "JOB=10\r\nSPH=-3.25\r\nCYL=0.50\r\nAX=90\r\nCTHICK=2.18\n") ≡ false
unfolding digits decimal sign signed_text hundredths_text lines_of goes_on number_from after_line scanned in_range job_in_range same_text is_text_of
line-feed = refl

half : is_text 8 (ascii "JOB=10\r\nSPH=1.28\r\nCYL=0.50\r\nAX=90\r\nCTHICK=1.18\r\n") ≡ false
unfolding digits decimal sign signed_text hundredths_text lines_of goes_on number_from after_line scanned in_range job_in_range same_text is_text_of
half = refl

too_large : is_text 64 (ascii "JOB=18446744073709551616\r\nSPH=0.00\r\nCYL=0.50\r\nAX=90\r\nCTHICK=1.18\r\n") ≡ false
unfolding digits decimal sign signed_text hundredths_text lines_of goes_on number_from after_line scanned in_range job_in_range same_text is_text_of
too_large = refl

accepted : is_text 16 (ascii "JOB=10\r\nSPH=-3.25\r\nCYL=0.50\r\nAX=90\r\nCTHICK=2.18\r\n") ≡ true
unfolding digits decimal sign signed_text hundredths_text lines_of goes_on number_from after_line scanned in_range job_in_range same_text is_text_of
accepted = refl
