-- The kinds of faults by their numbers. Of several kinds on a line the one with the least number is told.
use Rattle.std.specs.Prelude.{ℕ, if◌then◌else◌, ◌-◌, Bool, not, ◌&&◌, ◌||◌, Option, Some, None}
use Rattle.tpl_lang.specs.declared.fault.Kind.{Kind}
use Rattle.tpl_lang.specs.declared.fault.Kind.TheVariants as kinds
use Rattle.tpl_lang.specs.Phrases.{Phrase}
use Rattle.tpl_lang.specs.Known.{Known}
use Rattle.tpl_lang.specs.Faults.{allows, is_last, is_phrase_above, is_unknown, is_double, is_name_twice, is_empty, is_deep, is_long, is_phrase_long, passes_count, is_bad_ram, is_bad_start}

abbrev pub kind_number : Kind → ℕ
kind_number kinds.BadByte = 1
kind_number kinds.Unexpected = 2
kind_number kinds.NumberTooLarge = 3
kind_number kinds.UnknownName = 4
kind_number kinds.DoubleName = 5
kind_number kinds.NameTwiceInLeaf = 6
kind_number kinds.EmptyDomain = 7
kind_number kinds.TooDeep = 8
kind_number kinds.TooLong = 9
kind_number kinds.TooMany = 10
kind_number kinds.BadRam = 11
kind_number kinds.BadStart = 12

-- ---- the least kind of fault that a statement has; `last` says that no line follows

unfoldable pub fault_of : Known → Bool → Phrase → Option Kind
fault_of k last p =
    if not (allows k p) then Some kinds.Unexpected
    else (if last && not (is_last k p) then Some kinds.Unexpected
    else (if is_phrase_above p then Some kinds.NumberTooLarge
    else (if is_unknown k p then Some kinds.UnknownName
    else (if is_double k p then Some kinds.DoubleName
    else (if is_name_twice p then Some kinds.NameTwiceInLeaf
    else (if is_empty k p then Some kinds.EmptyDomain
    else (if is_deep k p then Some kinds.TooDeep
    else (if is_long k p then Some kinds.TooLong
    else (if is_phrase_long p || passes_count k p then Some kinds.TooMany
    else (if is_bad_ram k p then Some kinds.BadRam
    else (if is_bad_start k p then Some kinds.BadStart
    else None)))))))))))
