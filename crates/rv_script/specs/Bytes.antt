-- Bytes of words: little-endian, four to an aligned word (Unprivileged, 1.4).
use Rattle.std.specs.Prelude.{ℕ, zero, suc, ◌+◌, ◌-◌, ◌/◌, ◌%◌, ◌^◌, Bool, true, false, ◌&&◌, ◌||◌, nat_eq, nat_le, nat_lt}
use Rattle.rv_script.specs.declared.access.Access.{Access}
use Rattle.rv_script.specs.declared.access.Role.{Role}
use Rattle.rv_script.specs.declared.access.Role.TheVariants.{Fetch, Walk, Load, Store}

-- the address of the aligned word that holds the byte
abbrev pub word_address : ℕ → ℕ
word_address addr = addr - addr % 4

-- so many bytes of a word from an address on
abbrev pub part_of : ℕ → ℕ → ℕ → ℕ
part_of addr size word = word / 256 ^ (addr % 4) % 256 ^ size

-- the byte of a word that stands at an address
abbrev pub byte_at : ℕ → ℕ → ℕ
byte_at addr word = word / 256 ^ (addr % 4) % 256

-- the byte is one of the access's; an access keeps to one aligned word
abbrev pub covers : Access → ℕ → Bool
covers x b = nat_eq (b / 4) (x.addr / 4) && (nat_le x.addr b && nat_lt b (x.addr + x.size))

-- the access leaves memory as it is
abbrev pub is_look : Role → Bool
is_look Fetch = true
is_look Walk = true
is_look Load = true
is_look Store = false

-- the test holds of one of so many bytes from an address on
abbrev pub any_byte : ℕ → ℕ → (ℕ → Bool) → Bool
any_byte zero addr test = false
any_byte (suc n) addr test = test addr || any_byte n (addr + 1) test
