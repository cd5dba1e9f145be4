use Rattle.std.proofs.Common.{◌≡◌, length, sym, subst, rules}
use Rattle.console.specs.Grammar.{Fields}
use Rattle.stores.specs.Meaning.{pair}
use Rattle.console.specs.declared.commands.Command.TheVariants.{Open, Add, Drop, BusRank, PostRank, Block, Shortfall}
use Rattle.console.proofs.Readings.{refused, two, three}
use Rattle.console.proofs.parsing.command.Goals as goal

pub returns-in_err-buses-in-t : goal.returns-in_err-buses-in-t
returns-in_err-buses-in-t c = refused (Open 0 0 0) c.args.letter c.args.fields.now _ c.in-t.is c.in_err-buses-in-t.ensures c.from_residual.result c.from_residual.ensures.1

pub returns-in_err-bus-in-a : goal.returns-in_err-bus-in-a
returns-in_err-bus-in-a c = refused (Add (pair 0 0)) c.args.letter c.args.fields.now _ c.in-a.is c.in_err-bus-in-a.ensures c.from_residual-in_err-bus-in-a.result c.from_residual-in_err-bus-in-a.ensures.1

pub returns-in_err-bus-in-d : goal.returns-in_err-bus-in-d
returns-in_err-bus-in-d c = refused (Drop (pair 0 0)) c.args.letter c.args.fields.now _ c.in-d.is c.in_err-bus-in-d.ensures c.from_residual-in_err-bus-in-d.result c.from_residual-in_err-bus-in-d.ensures.1

pub returns-in_err-bus-in-b : goal.returns-in_err-bus-in-b
returns-in_err-bus-in-b c = refused (BusRank 0) c.args.letter c.args.fields.now _ c.in-b.is c.in_err-bus-in-b.ensures c.from_residual-in_err-bus-in-b.result c.from_residual-in_err-bus-in-b.ensures.1

pub returns-in_err-post-in-p : goal.returns-in_err-post-in-p
returns-in_err-post-in-p c = refused (PostRank 0) c.args.letter c.args.fields.now _ c.in-p.is c.in_err-post-in-p.ensures c.from_residual-in_err-post-in-p.result c.from_residual-in_err-post-in-p.ensures.1

pub returns-in_err-level-in-k : goal.returns-in_err-level-in-k
returns-in_err-level-in-k c = refused (Block 0) c.args.letter c.args.fields.now _ c.in-k.is c.in_err-level-in-k.ensures c.from_residual-in_err-level-in-k.result c.from_residual-in_err-level-in-k.ensures.1

pub returns-in_err-level-in-s : goal.returns-in_err-level-in-s
returns-in_err-level-in-s c = refused (Shortfall 0) c.args.letter c.args.fields.now _ c.in-s.is c.in_err-level-in-s.ensures c.from_residual-in_err-level-in-s.result c.from_residual-in_err-level-in-s.ensures.1

pub returns-in_ok-buses-in-t : goal.returns-in_ok-buses-in-t
returns-in_ok-buses-in-t c =
    let long : length c.in_ok-buses-in-t.field-0 ≡ 3 = search rules in
    (sym c.in-t.is, subst (Fields c.args.fields.now) (three c.in_ok-buses-in-t.field-0 long) c.in_ok-buses-in-t.ensures)

pub returns-in_ok-bus-in-a : goal.returns-in_ok-bus-in-a
returns-in_ok-bus-in-a c =
    let long : length c.in_ok-bus-in-a.field-0 ≡ 2 = search rules in
    (sym c.in-a.is, subst (Fields c.args.fields.now) (two c.in_ok-bus-in-a.field-0 long) c.in_ok-bus-in-a.ensures)

pub returns-in_ok-bus-in-d : goal.returns-in_ok-bus-in-d
returns-in_ok-bus-in-d c =
    let long : length c.in_ok-bus-in-d.field-0 ≡ 2 = search rules in
    (sym c.in-d.is, subst (Fields c.args.fields.now) (two c.in_ok-bus-in-d.field-0 long) c.in_ok-bus-in-d.ensures)
