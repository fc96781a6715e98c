use Rattle.std.proofs.lemmas.Result.{err_from_is_err_and}
use Rattle.elf_image.specs.Internal.PartReaders.{words_at}
use Rattle.elf_image.proofs.LoadLoops.{run_end, run_goes_on, run_ends, all_done}
use Rattle.elf_image.proofs.reading.loads.words_of.Goals as goal

pub run_words-requires : goal.run_words-requires
run_words-requires c = run_end c.args.runs.now 0 c.loop-run.run-index (record { addr = 0; words = 0 }) c.requires c.loop-run-test.true

pub returns-in_err-rest : goal.returns-in_err-rest
returns-in_err-rest c =
    let p = err_from_is_err_and c.from_residual.result c.from_residual.ensures.1 in
    rw (p.1, p.2) (run_ends c.in_err-rest.field-0.0 c.loop-run.words c.args.runs.now c.loop-run.run-index (record { addr = 0; words = 0 }) c.loop-run.rest.now (words_at c.args.runs.now c.args.bytes.now) c.loop-run-test.true c.in_err-rest.ensures c.loop-run.invariant)

pub loop-run-preserved : goal.loop-run-preserved
loop-run-preserved c = run_goes_on c.loop-run.words c.args.runs.now c.loop-run.run-index (record { addr = 0; words = 0 }) c.loop-run.rest.now c.run_words.new.words c.in_ok-rest.rest.now (words_at c.args.runs.now c.args.bytes.now) c.loop-run-test.true c.in_ok-rest.ensures c.loop-run.invariant

pub returns : goal.returns
returns c = all_done c.loop-run.words c.args.runs.now c.loop-run.run-index c.loop-run.rest.now (words_at c.args.runs.now c.args.bytes.now) c.loop-run-test.false c.loop-run.invariant
