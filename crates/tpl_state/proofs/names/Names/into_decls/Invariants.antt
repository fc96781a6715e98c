use Rattle.std.proofs.Common.{◌≡◌, ◌++◌, map}
use Rattle.tpl_state.proofs.Found.{declared}
use Rattle.tpl_state.proofs.names.Names.into_decls.Given as goal

abbrev pub invariant-loop-name : goal.invariant-loop-name
invariant-loop-name l = l.decls ++ map declared l.name-iterator ≡ l.fn.self
