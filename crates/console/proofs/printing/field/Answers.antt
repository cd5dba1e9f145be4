use Rattle.std.proofs.Common.{◌≡◌, length, ap, append_assoc, ◌∙◌, arith}
use Rattle.console.specs.Texts.{padded}
use Rattle.console.specs.Words.{text}
use Rattle.console.proofs.Nonzero.{zeroless_text}
use Rattle.console.proofs.printing.field.Goals as goal

pub returns : goal.returns
returns c =
    let all : c.as_str.result.now ≡ text c.args.line c.args.answer =
    rw (c.as_str.ensures.value, c.push-2.ensures.ascii (omega arith), c.push_reply.ensures.text, c.push.ensures.ascii (omega arith), c.push_str.ensures.bytes, c.new-text.ensures, c.format.ensures.text) (simp append_assoc) in
    record {
      field = c.with_zeros.ensures ∙ ap (padded 64) all;
      fits = omega (arith, ap length all, c.as_str.ensures.fits);
      zeroless = zeroless_text c.args.line c.args.answer;
    }
