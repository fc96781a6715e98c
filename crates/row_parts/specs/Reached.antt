-- Rows of a set of addresses that lead one way.
use Rattle.std.specs.Prelude.{ℕ, ◌+◌, ◌*◌, ◌%◌, ◌^◌, ◌&&◌, Bool, List}
use Rattle.dom_set.specs.Elements.{is_in}
use Rattle.sv_walk.specs.declared.entry.Kind.{Kind}
use Rattle.sv_walk.specs.Translation.{arrived}
use Rattle.row_parts.specs.Gaps.{counts}
use Rattle.row_parts.specs.declared.row.News.{News}
use Rattle.row_parts.specs.declared.row.Row.{Row}
use Rattle.row_parts.specs.declared.row.RowEnd.{RowEnd}
use Rattle.row_parts.specs.Rows.{Adds, Reaches, end_at, found, is_of}

-- all addresses of a set, with these new entries, lead to this end
abbrev pub AddsAll : List Row → List Row → List ℕ → News → RowEnd → Type 0
AddsAll old new set news end = Adds old new (λ x root leaf. found (counts news.apart x && (is_in set x && (is_of news.root root && is_of news.leaf leaf))) (end_at end x))

-- the addresses of a set that pass a test lead to it
abbrev pub AddsChosen : List Row → List Row → List ℕ → (ℕ → Bool) → News → RowEnd → Type 0
AddsChosen old new set test news end = Adds old new (λ x root leaf. found (counts news.apart x && ((is_in set x && test x) && (is_of news.root root && is_of news.leaf leaf))) (end_at end x))

-- the lowest bits of each address, so many, are its offset from the address of a frame
abbrev pub AddsReached : (ℕ → Bool) → Kind → List Row → List Row → List ℕ → News → ℕ → ℕ → Type 0
AddsReached ram kind old new set news frame width = Adds old new (λ x root leaf. found (counts news.apart x && (is_in set x && (is_of news.root root && is_of news.leaf leaf))) (Reaches (arrived ram kind (frame * 4096 + x % 2 ^ width))))
