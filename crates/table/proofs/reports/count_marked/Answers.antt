use Rattle.std.proofs.Common.{◌≡◌, ◌+◌, nat_lt, count_by, slice_range, ◌∙◌, rules}
use Rattle.table.proofs.Counting.{count_range}
use Rattle.table.proofs.reports.count_marked.Goals as goal

pub returns : goal.returns
returns c =
    let counted : c.count.result ≡ count_by (λ m. nat_lt 0 m) (slice_range c.args.marks.now c.args.start (c.args.start + c.args.count)) = search rules in
    counted ∙ count_range c.args.marks.now c.args.start c.args.count c.requires
