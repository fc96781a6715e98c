-- The numbers of the ELF specification (System V ABI, Object Files and Program Loading; RISC-V ELF psABI) and of the notes, by their names.
use Rattle.std.specs.Prelude.{◌≡◌}
use Rattle.elf_headers.specs.declared.elf.TheConstants.{ELFMAG0, ELFMAG1, ELFMAG2, ELFMAG3, ELFCLASS32, ELFDATA2LSB, EV_CURRENT, ELFOSABI_NONE, EI_ABIVERSION, EI_NIDENT, ET_EXEC, EM_RISCV, EHDR_SIZE, PHDR_SIZE, PT_LOAD, PT_NOTE, PF_X, PF_W, PF_R, ALIGN, NAME_SIZE, NT_START, NT_TRACES, NT_FINAL, NT_TEMPLATE, NT_REST, VERSION}

pub record NamesHaveTheirNumbers : Type 0 where
  pub magic : (ELFMAG0 ≡ 0x7f) × (ELFMAG1 ≡ 0x45) × (ELFMAG2 ≡ 0x4c) × (ELFMAG3 ≡ 0x46)
  pub ident : (ELFCLASS32 ≡ 1) × (ELFDATA2LSB ≡ 1) × (EV_CURRENT ≡ 1) × (ELFOSABI_NONE ≡ 0)
  pub places : (EI_ABIVERSION ≡ 8) × (EI_NIDENT ≡ 16)
  pub header : (ET_EXEC ≡ 2) × (EM_RISCV ≡ 243)
  pub sizes : (EHDR_SIZE ≡ 52) × (PHDR_SIZE ≡ 32)
  pub segments : (PT_LOAD ≡ 1) × (PT_NOTE ≡ 4)
  pub flags : (PF_X ≡ 1) × (PF_W ≡ 2) × (PF_R ≡ 4)
  pub align : ALIGN ≡ 4
  pub notes : (NT_START ≡ 1) × (NT_TRACES ≡ 2) × (NT_FINAL ≡ 3) × (NT_TEMPLATE ≡ 4) × (NT_REST ≡ 5)
  pub name_size : NAME_SIZE ≡ 5
  pub version : VERSION ≡ 1
