-- The numbers of the errors, and their texts.
use Rattle.std.specs.Prelude.{ℕ, Option, Some, None}
use Rattle.std.specs.String.{string_bytes}
use Rattle.fm_grammar.specs.Exposition.{Text}
use Rattle.fm_registry_rules.specs.declared.error.RegistryError.{RegistryError}
use Rattle.fm_registry_rules.specs.declared.error.RegistryError.TheVariants.{InvalidNameFormat, MustHaveAnEmptyUnitString, OtherUnitFormatMustBeLowercase, AlreadyExists, Memory, InvalidNamespace, InvalidSubsystemName, InvalidLabelName, DuplicateLabel, NoSuchSubsystem, TooDeep, NameTaken, ReservedLabel, NoRandomKeys}

-- the number of an error
abbrev pub error_number : RegistryError → ℕ
error_number (InvalidNameFormat name) = 1
error_number (MustHaveAnEmptyUnitString name) = 2
error_number (OtherUnitFormatMustBeLowercase unit) = 3
error_number (AlreadyExists name) = 4
error_number Memory = 5
error_number (InvalidNamespace namespace) = 6
error_number (InvalidSubsystemName name) = 7
error_number (InvalidLabelName name) = 8
error_number (DuplicateLabel name) = 9
error_number (NoSuchSubsystem name) = 10
error_number (TooDeep name) = 11
error_number (NameTaken name) = 12
error_number (ReservedLabel name) = 13
error_number NoRandomKeys = 14

-- the name, or the unit, that was refused
abbrev pub error_text : RegistryError → Option Text
error_text (InvalidNameFormat name) = Some (string_bytes name)
error_text (MustHaveAnEmptyUnitString name) = Some (string_bytes name)
error_text (OtherUnitFormatMustBeLowercase unit) = Some (string_bytes unit)
error_text (AlreadyExists name) = Some (string_bytes name)
error_text Memory = None
error_text (InvalidNamespace namespace) = Some (string_bytes namespace)
error_text (InvalidSubsystemName name) = Some (string_bytes name)
error_text (InvalidLabelName name) = Some (string_bytes name)
error_text (DuplicateLabel name) = Some (string_bytes name)
error_text (NoSuchSubsystem name) = Some (string_bytes name)
error_text (TooDeep name) = Some (string_bytes name)
error_text (NameTaken name) = Some (string_bytes name)
error_text (ReservedLabel name) = Some (string_bytes name)
error_text NoRandomKeys = None
