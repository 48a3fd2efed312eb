-- `twobit::entry::mark` meets its contract.
use Rattle.twobit.proofs.LeafMarks.{marked-not, marked-new}
use Rattle.twobit.proofs.entry.mark.Goals as goal

pub returns-then-unseen : goal.returns-then-unseen
returns-then-unseen c =
    let a = c.args in
    let v = c.get_entry-unseen in
    marked-new a.bytes.now a.i a.label v.result v.ensures c.set_entry.new.bytes c.if-unseen.true c.set_entry.ensures

pub returns-else-unseen : goal.returns-else-unseen
returns-else-unseen c =
    let a = c.args in
    let v = c.get_entry-unseen in
    marked-not a.bytes.now a.i a.label v.result v.ensures c.if-unseen.false
