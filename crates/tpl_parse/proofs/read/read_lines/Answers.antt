use Rattle.std.proofs.Common.{◌<◌, ◌∷◌, List, ℕ, false, length, sym, ap, ◌∙◌, subst, arith}
use Rattle.std.specs.Prelude.{option_copied, IfSome}
use Rattle.tpl_lang.specs.Lines.{lines, lines_left}
use Rattle.tpl_lang.specs.Parsing.{line_parsed, lines_parsed}
use Rattle.tpl_lang.specs.Known.{nothing}
use Rattle.tpl_parse.specs.Answers.{Denies, Refuses}
use Rattle.tpl_state.specs.Internal.State.{known}
use Rattle.tpl_parse.proofs.Runs.{goes_on, stops_here}
use Rattle.tpl_parse.proofs.read.read_lines.Goals as goal

pub returns-in-Err-read_line : goal.returns-in-Err-read_line
returns-in-Err-read_line c =
    let bytes = c.split_line.result.0.now in
    let split = c.split_line.ensures.split ∙ ap (λ o. bytes ∷ lines_left (option_copied o)) c.in-Some.is in
    let fails = subst (λ (b : List ℕ). Refuses c.in-Err-read_line.trouble (line_parsed (known c.loop-state.state) c.loop-state.line b false)) c.strip.ensures c.in-Err-read_line.ensures in
    subst (λ e. Denies e (lines_parsed nothing 1 (lines c.args.text.now))) (sym c.refuse-in-Err-read_line.ensures) (stops_here (known c.loop-state.state) c.loop-state.line c.loop-state.rest.now bytes _ c.loop-state.invariant.read c.in-Some.after.now split c.in-Err-read_line.trouble fails)

pub loop-state-preserved : goal.loop-state-preserved
loop-state-preserved c =
    let bytes = c.split_line.result.0.now in
    let after = c.in-Some.after.now in
    let split = c.split_line.ensures.split ∙ ap (λ o. bytes ∷ lines_left (option_copied o)) c.in-Some.is in
    let read = ap (λ (b : List ℕ). line_parsed (known c.loop-state.state) c.loop-state.line b false) (sym c.strip.ensures) ∙ c.in_default.ensures in
    let shorter : length after < length c.loop-state.rest.now = subst (λ o. IfSome o (λ r. length r.now < length c.loop-state.rest.now)) c.in-Some.is c.split_line.ensures.shorter in
    record {
      read = goes_on (known c.loop-state.state) c.loop-state.line c.loop-state.rest.now bytes _ c.loop-state.invariant.read after split (known c.read_line-in-Some.new.state) read;
      room = omega (arith, shorter, c.loop-state.invariant.room);
    }
