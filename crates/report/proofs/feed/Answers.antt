-- `report::feed` meets its contract: it goes through the part character by character, and prints what each brings.
use Rattle.std.proofs.Common.{◌≡◌, List, ℕ, length, ◌+◌, ap, ◌∙◌, arith, refl, rules, take_all}
use Rattle.text.specs.Reader.{read_all}
use Rattle.text.specs.declared.Reader.{Reader}
use Rattle.text.proofs.Writing.{wrote-text}
use Rattle.report.proofs.Feeding.{on-err, read-next}
use Rattle.report.proofs.feed.Goals.{After-byte_read-printed}
use Rattle.report.proofs.feed.Goals as goal

pub loop-byte-init : goal.loop-byte-init
unfolding read_all
loop-byte-init g c = (refl, refl)

pub print_byte-requires : goal.print_byte-requires
print_byte-requires g c = (_, wrote-text c.byte_read-printed.ensures.wrote)

pub returns-in_err-print_byte-clause-err : goal.returns-in_err-print_byte-clause-err
returns-in_err-print_byte-clause-err g c =
    on-err c.from_residual.result (
      c.loop-byte.byte-index + 1,
      ap (λ (a : Reader × List ℕ). a.1)
          (read-next c.args.reader c.loop-byte.now c.args.table.now c.loop-byte.table c.args.chunk.now c.loop-byte.byte-index c.byte_read-printed.result
          c.byte_read-printed.new.table _ _ c.loop-byte-test.true c.loop-byte.invariant.1 c.byte_read-printed.ensures),
    )

pub loop-byte-preserved : goal.loop-byte-preserved
loop-byte-preserved g c = (
  search rules,
  read-next c.args.reader c.loop-byte.now c.args.table.now c.loop-byte.table c.args.chunk.now c.loop-byte.byte-index c.byte_read-printed.result
      c.byte_read-printed.new.table _ _ c.loop-byte-test.true c.loop-byte.invariant.1 c.byte_read-printed.ensures,
)

pub returns-clause-ok : goal.returns-clause-ok
returns-clause-ok g c =
    c.loop-byte.invariant.1
    ∙ ap (λ (l : List ℕ). read_all c.args.reader c.args.table.now l) (take_all c.loop-byte.byte-index c.args.chunk.now (omega arith))
