-- `records::read_records` meets its contract: the length is tried first, then the opening's record, and then the answers in the rest
-- of the text. An empty text has no opening's record: that of no bytes is malformed.
-- Assumes nothing.
use Rattle.std.proofs.Common.{sym, ◌∙◌, arith}
use borrow.Author.Rules.{part_to_end}
use Rattle.forms.proofs.EntriesLaws.{entries_long, entries_short}
use Rattle.scanning.specs.First.{record_le}
use Rattle.scanning.specs.Rest.{OpeningRead, opening_read, opening_malformed, opening_wrong, opening_taken}
use Rattle.records.proofs.read_records.Goals as goal

pub returns-then-text-gt-LONGEST_TEXT : goal.returns-then-text-gt-LONGEST_TEXT
returns-then-text-gt-LONGEST_TEXT c = c.refuse.ensures ∙ sym (entries_long c.args.text.now c.if-text-gt-LONGEST_TEXT.true)

pub returns-in_default : goal.returns-in_default
returns-in_default c =
    let s = c.args.text.now in
    c.refuse-in_default.ensures
    ∙ sym (entries_short s c.if-text-gt-LONGEST_TEXT.false ∙ opening_wrong s (opening_malformed s c.read_opening.ensures c.in_default.is))

-- an opening that was read ends within the text
pub slice_bounds-read_answers-count : goal.slice_bounds-read_answers-count
slice_bounds-read_answers-count c =
    let s = c.args.text.now in
    let o = c.in-Some.opening in
    let taken : OpeningRead s o.value o.next = opening_read s c.read_opening.ensures c.in-Some.is in
    omega (arith, record_le s)

pub slice_bounds-read_answers-start : goal.slice_bounds-read_answers-start
slice_bounds-read_answers-start c =
    let s = c.args.text.now in
    let o = c.in-Some.opening in
    let taken : OpeningRead s o.value o.next = opening_read s c.read_opening.ensures c.in-Some.is in
    omega (arith, record_le s)

pub returns : goal.returns
returns c =
    let s = c.args.text.now in
    let o = c.in-Some.opening in
    let taken : OpeningRead s o.value o.next = opening_read s c.read_opening.ensures c.in-Some.is in
    c.read_answers.ensures
    ∙ sym (entries_short s c.if-text-gt-LONGEST_TEXT.false ∙ opening_taken s taken (part_to_end s o.next))
