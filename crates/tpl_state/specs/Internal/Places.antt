-- Places of the code as the language's.
use Rattle.tpl_lang.specs.Known as language
use Rattle.tpl_state.specs.declared.place.Place.{Place}
use Rattle.tpl_state.specs.declared.place.Place.TheVariants as places

abbrev pub place_view : Place → language.Place
place_view places.Head = language.Head
place_view places.Begin = language.Begin
place_view places.Settings = language.Settings
place_view places.Inside = language.Inside
place_view places.Ended = language.Ended
