-- What is kept of the lines so far, as what they have said.
use Rattle.std.specs.Prelude.{map}
use Rattle.tpl_lang.specs.Known.{Known}
use Rattle.tpl_ast.specs.Bodies.{hart_lines}
use Rattle.tpl_state.specs.Internal.Places.{place_view}
use Rattle.tpl_state.specs.declared.state.State.{State}

abbrev pub known : State → Known
known p = record {
  place = place_view p.place;
  ram = p.ram.items;
  pool = p.pool.items;
  tables = p.tables.items;
  flags = p.flags.items;
  vectors = p.vectors;
  sets = p.sets;
  names = p.names;
  words = p.words.items;
  harts = map hart_lines p.harts.items;
  length = p.total;
  pc = p.pc;
  privilege = p.privilege;
  given = p.given.items;
  body = p.body.lines;
  blocks = p.body.blocks;
}
