-- The marked examples of paper 01 and the samples of paper 02, K2 and K4, hold: one theorem over the whole table. Assumes nothing.
use mathlib.Core.Path.{◌≡◌, refl}
use mathlib.Core.List.{map}
use lib.Count.{count_trailing_zeros}
use Rattle.words.specs.Word.{add_w, sub_w, neg_w, mul_w, all_in_width}
use Rattle.words.specs.Params.{params_ok}
use Rattle.words.specs.Refusal.{first, unless, first_of}
use Rattle.words.specs.Signed.{meaning, signed_of}
use Rattle.galois.specs.Element.{lower, product, inverse}
use Rattle.codewords.specs.Codeword.{error_set, positions}
use Rattle.sharing.specs.Dealing.{dealt}
use Rattle.sharing.specs.Opening.{lent, opening}
use Rattle.records.specs.Num.{part, le_num, le_at, le_bytes}
use Rattle.records.specs.Layout.{record_size, head_kind, head_len, word_size, job_len_of, file_size}
use Rattle.records.specs.Record.{len_at, kind_at, framed, heading_of}
use Rattle.bundle.specs.Bundle.{ranges_ok, holder_ok, same_params, belongs, num_of, heading_fault, job_fault_at, prev_num, job_fault, file_fault_at}
use Rattle.bundle.specs.Bundle.{place_at, prev_holder, files_in, fault_of_file, files_fault, bundle_fault, job_at}
use Rattle.bundle.specs.Contents.{words_from, job_from, jobs_from, file_from, files_from, bundle_from, words_of}
use Rattle.totals.specs.Values.{values_from, every}
use Rattle.archive.specs.Archive.{place_opening}
use Rattle.writer.specs.Bytes.{record_bytes, heading_body, heading_bytes, words_bytes, job_body, job_bytes, jobs_bytes, file_bytes, files_bytes}
use Rattle.writer.specs.Bytes.{order_bytes, bundle_bytes}
use Rattle.text.specs.Text.{open_line, declined_line, kept_line, changed_lines}
use Rattle.listing.specs.Listing.{listing_of}
use Rattle.mending.specs.Mended.{reword_bundle, mended_words, mended}
use Rattle.mending.specs.Report.{changes_at, changes_from, report_of}
use Rattle.examples.specs.Examples.{answer, table}

pub examples-hold : map (λ e. answer e.asked) table ≡ map (λ e. e.expected) table
unfolding answer product inverse lower meaning add_w sub_w neg_w mul_w all_in_width params_ok dealt opening lent error_set positions count_trailing_zeros
    first unless first_of part le_num le_at record_size head_kind head_len word_size job_len_of file_size len_at kind_at framed heading_of
    ranges_ok holder_ok same_params belongs num_of heading_fault job_fault_at prev_num job_fault file_fault_at
    place_at prev_holder files_in fault_of_file files_fault bundle_fault job_at
    words_from words_of values_from every place_opening signed_of open_line declined_line listing_of
    le_bytes record_bytes heading_body heading_bytes words_bytes job_body job_bytes jobs_bytes file_bytes files_bytes order_bytes bundle_bytes
    job_from jobs_from file_from files_from bundle_from reword_bundle mended_words mended kept_line changed_lines changes_at changes_from report_of
examples-hold = refl
