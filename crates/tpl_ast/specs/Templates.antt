-- What is known of every template.
use Rattle.std.specs.Prelude.{◌≡◌, ℕ, ◌+◌, ◌-◌, ◌%◌, ◌<◌, ◌≤◌, ◌⊎◌, Bool, true, false, ◌&&◌, ◌||◌, ◌==◌, nat_le, nat_lt, List, [], ◌∷◌, length, map, Vec}
use Rattle.std.specs.Global.{Global}
use Rattle.std.specs.List.{AllByRecursion, list_all, list_any}
use Rattle.dom_set.specs.Elements.{is_in}
use Rattle.tpl_ast.specs.declared.template.HartDecl.{HartDecl}
use Rattle.tpl_ast.specs.declared.template.Item.{Item}
use Rattle.tpl_ast.specs.declared.template.Item.TheFolds.{fold-Item}
use Rattle.tpl_ast.specs.declared.template.Item.TheOpen.{Item-F}
use Rattle.tpl_ast.specs.declared.template.Item.TheOpen as layers
use Rattle.tpl_ast.specs.declared.template.NameDecl.{NameDecl}
use Rattle.tpl_ast.specs.declared.template.Region.{Region}
use Rattle.tpl_ast.specs.declared.template.Template.{Template}
use Rattle.tpl_ast.specs.Choices.{all_true, all_ways, is_fit, weight_of}
use Rattle.tpl_ast.specs.Leaves.{is_leaf}
use Rattle.tpl_ast.specs.Lengths.{length_of_harts}
use Rattle.tpl_ast.specs.Naming.{AreNamesInOrder}
use Rattle.tpl_ast.specs.States.{AreStartWords, IsState}
use Rattle.tpl_ast.specs.Limits.{data_bound, last_end, longest_name, most_flags, most_harts, most_memory, most_names, most_pool, most_records, most_regions, most_tables, most_text, most_times, most_ways, most_weight}

-- ---- regions and frames

-- how many bytes the regions have together
abbrev pub size_of : List Region → ℕ
size_of [] = 0
size_of (r ∷ rs) = r.high - r.low + size_of rs

-- so many bytes from an address on lie in the region
abbrev pub holds : ℕ → ℕ → Region → Bool
holds lo size r = nat_le r.low lo && nat_le (lo + size) r.high

abbrev pub is_number_among : List ℕ → ℕ → Bool
is_number_among ns n = list_any (λ m. m == n) ns

-- ---- memory

-- whole frames of 4,096 bytes
pub record IsFramed (r : Region) : Type 0 where
  pub low : r.low % 4096 ≡ 0
  pub high : r.high % 4096 ≡ 0
  pub some : r.low < r.high
  pub most : r.high ≤ last_end

-- no byte is in both
abbrev pub IsApart : Region → Region → Type 0
IsApart r s = (r.high ≤ s.low) ⊎ (s.high ≤ r.low)

abbrev pub AreApart : List Region → Type 0
AreApart [] = Unit {0}
AreApart (r ∷ rs) = AllByRecursion (IsApart r) rs × AreApart rs

-- a frame of RAM
pub record IsFrame (ram : List Region) (f : ℕ) : Type 0 where
  pub aligned : f % 4096 ≡ 0
  pub held : list_any (holds f 4096) ram ≡ true

abbrev pub AreDistinct : List ℕ → Type 0
AreDistinct [] = Unit {0}
AreDistinct (n ∷ ns) = (is_number_among ns n ≡ false) × AreDistinct ns

-- frames of RAM, each once and none of the others
pub record AreFrames (ram : List Region) (others frames : List ℕ) : Type 0 where
  pub held : AllByRecursion (IsFrame ram) frames
  pub distinct : AreDistinct frames
  pub apart : AllByRecursion (λ f. is_number_among others f ≡ false) frames

-- a flag byte is not that of a pointer: V is 1, and R, W and X are 0 (Privileged, 4.3.1)
abbrev pub IsFlagByte : ℕ → Type 0
IsFlagByte b = (b < 256) × ((b % 16 == 1) ≡ false)

-- ---- names

abbrev pub IsShortName : NameDecl → Type 0
IsShortName d = length d.name ≤ longest_name

-- a value can be chosen
abbrev pub HasValues : NameDecl → Type 0
HasValues d = (x : ℕ) × (is_in d.set x ≡ true)

-- ---- bodies

-- a fetch fails with an access fault or a page fault; retire, 255, may be listed too
abbrev pub is_fetch_outcome : ℕ → Bool
is_fetch_outcome n = n == 1 || (n == 12 || n == 255)

abbrev pub are_weights : List (ℕ × Vec Bool Global) → Bool
are_weights [] = true
are_weights (w ∷ ws) = nat_le w.0 most_weight && are_weights ws

-- an item, with the answer for each inner item in its place
abbrev pub stands_in : ℕ → Item-F Bool → Bool
stands_in names (layers.Leaf line wishes) = is_leaf names wishes.items
stands_in names (layers.FetchFault line causes) = list_all is_fetch_outcome causes
stands_in names (layers.Seq body) = all_true body.items
stands_in names (layers.Repeat times body) = nat_le times most_times && all_true body.items
stands_in names (layers.Choose line ways) = nat_le 1 (weight_of ways.items) && (nat_le (length ways.items) most_ways && (are_weights ways.items && all_ways ways.items))
stands_in names (layers.Label name) = nat_lt name names

-- an item of a template with so many names: its leaves are leaves, faults of fetches are such, repeats and choices keep their limits, and of each choice one alternative can be picked
abbrev pub stands : ℕ → Item → Bool
stands names = fold-Item Bool (stands_in names)

abbrev pub IsBody : ℕ → List Item → Type 0
IsBody names items = all_true (map (stands names) items) ≡ true

-- of each choice of the body an alternative can be picked
abbrev pub CanPick : List Item → Type 0
CanPick items = all_true (map is_fit items) ≡ true

-- ---- templates

pub record KeepsLimits (bytes : List ℕ) (t : Template) : Type 0 where
  pub text : length bytes ≤ most_text
  pub ram : AllByRecursion IsFramed t.ram
  pub regions : length t.ram ≤ most_regions
  pub apart : AreApart t.ram
  pub memory : size_of t.ram ≤ most_memory
  pub pool : AreFrames t.ram t.tables t.pool
  pub pool_count : length t.pool ≤ most_pool
  pub tables : AreFrames t.ram t.pool t.tables
  pub tables_count : length t.tables ≤ most_tables
  pub flags : AllByRecursion IsFlagByte t.flags
  pub flags_count : length t.flags ≤ most_flags
  pub vectors : (x : ℕ) → is_in t.vectors x ≡ true → x % 4 ≡ 0
  pub words : AreStartWords t.ram 0 t.words
  pub words_count : length t.words < data_bound
  pub names : AllByRecursion IsShortName t.names
  pub names_count : length t.names ≤ most_names
  pub values : AllByRecursion HasValues t.names
  pub order : AreNamesInOrder t.names t.harts
  pub some_harts : 1 ≤ length t.harts
  pub harts : length t.harts ≤ most_harts
  pub states : AllByRecursion (λ (h : HartDecl). IsState h.start) t.harts
  pub bodies : AllByRecursion (λ (h : HartDecl). IsBody (length t.names) h.body.items) t.harts
  pub picks : AllByRecursion (λ (h : HartDecl). CanPick h.body.items) t.harts
  pub length : length_of_harts t.harts ≤ most_records
