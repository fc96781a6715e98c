-- The limits of the language and of the file.
use Rattle.std.specs.Prelude.{ℕ, ◌^◌}

-- ---- templates

-- bytes of a text, and of a name
abbrev pub most_text : ℕ
most_text = 65536

abbrev pub longest_name : ℕ
longest_name = 32

-- regions of RAM, their bytes together, and where the last one may end
abbrev pub most_regions : ℕ
most_regions = 8

abbrev pub most_memory : ℕ
most_memory = 2 ^ 26

abbrev pub last_end : ℕ
last_end = 0xfffff000

-- frames for code and data, frames for page tables, and flag bytes of entries
abbrev pub most_pool : ℕ
most_pool = 32

abbrev pub most_tables : ℕ
most_tables = 8

abbrev pub most_flags : ℕ
most_flags = 8

-- fewer words than this are given by `data` lines, as the text is no longer
abbrev pub data_bound : ℕ
data_bound = 7300

-- named sets, and elements of a list in braces
abbrev pub most_sets : ℕ
most_sets = 64

abbrev pub most_elements : ℕ
most_elements = 64

-- names, labels among them
abbrev pub most_names : ℕ
most_names = 256

abbrev pub most_harts : ℕ
most_harts = 4

-- records of all harts together
abbrev pub most_records : ℕ
most_records = 8192

-- blocks in one another inside a body, and how often one is repeated
abbrev pub most_blocks : ℕ
most_blocks = 16

abbrev pub most_times : ℕ
most_times = 8192

-- alternatives of a choice, and the weight of one
abbrev pub most_ways : ℕ
most_ways = 64

abbrev pub most_weight : ℕ
most_weight = 65535

abbrev pub most_atoms : ℕ
most_atoms = 32

-- ---- files

-- what a file holds at most: bytes; harts, records of all of them, words, choices and dropped biases; accesses of a record. A dropped bias is of a
-- step and an atom below these
pub record FileLimits : Type 0 where
  pub size : ℕ
  pub harts : ℕ
  pub records : ℕ
  pub words : ℕ
  pub choices : ℕ
  pub dropped : ℕ
  pub accesses : ℕ
  pub steps : ℕ
  pub atoms : ℕ

abbrev pub file_limits : FileLimits
file_limits = record {
  size = 8388608;
  harts = most_harts;
  records = most_records;
  words = 60000;
  choices = 8192;
  dropped = 262144;
  accesses = 8;
  steps = 8192;
  atoms = most_atoms;
}

-- ---- texts

-- every text that the program writes has fewer bytes
abbrev pub text_room : ℕ
text_room = 16777216
