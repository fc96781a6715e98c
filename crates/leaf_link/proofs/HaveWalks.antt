-- Leaves whose addresses are translated have candidates.
use Rattle.std.proofs.Common.{refl}
use Rattle.sv_walk.specs.declared.entry.Kind.TheVariants.{Load as ForLoad, Store as ForStore}
use Rattle.leaf_link.specs.WalkWitnesses.{HaveWalks}
use Rattle.leaf_link.proofs.FaultPossible.{failing_are_rows, load_fault_possible, store_fault_possible}
use Rattle.leaf_link.proofs.WalkPossible.{fault_possible, fetch_possible, fetches_are_rows, load_possible, pages_are_rows}

pub have_walks : HaveWalks
have_walks = record {
  loads = pages_are_rows ForLoad refl;
  stores = pages_are_rows ForStore refl;
  load = load_possible;
  failing_loads = failing_are_rows ForLoad refl;
  failing_stores = failing_are_rows ForStore refl;
  load_fault = load_fault_possible;
  store_fault = store_fault_possible;
  fetches = fetches_are_rows;
  untouched = refl;
  vector = refl;
  fetch = fetch_possible;
  fault = fault_possible;
}
