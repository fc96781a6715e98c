use Rattle.std.proofs.Common.{arith, ◌≡◌, ◌++◌, length, ap, string_bytes}
use Rattle.trace_text.proofs.Parts.{harts_none, hart_read, harts_all, first_harts}
use Rattle.trace_text.proofs.harts.push_harts.Goals as goal

pub loop-hart-init : goal.loop-hart-init
loop-hart-init c = harts_none c.args.cert.now (string_bytes c.args.text.now)

pub loop-hart-preserved : goal.loop-hart-preserved
loop-hart-preserved c = hart_read c.args.cert.now (string_bytes c.args.text.now) (string_bytes c.loop-hart.text) (string_bytes c.push_hart.new.text) c.loop-hart.hart c.as_slice-start.result.now c.as_slice-traces.result.now c.as_slice-finals.result.now c.index-start-hart.result c.index-traces-hart.result c.as_slice.result.now c.index-finals-hart.result c.as_slice-start.ensures c.as_slice-traces.ensures c.as_slice-finals.ensures c.requires.traces c.requires.finals c.loop-hart-test.true c.index-start-hart.is c.index-traces-hart.is c.as_slice.ensures c.index-finals-hart.is c.loop-hart.invariant c.in_ok-push_hart.ensures

pub returns : goal.returns
returns c =
    let was : string_bytes c.loop-hart.text ≡ string_bytes c.args.text.now ++ first_harts c.args.cert.now c.loop-hart.hart = c.loop-hart.invariant in
    let all = harts_all c.args.cert.now c.loop-hart.hart (omega (arith, ap length c.as_slice-start.ensures)) in
    cc (was, all)
