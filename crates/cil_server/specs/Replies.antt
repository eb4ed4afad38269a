-- The replies of a session, with the newline that ends each. This project's profile.
use Rattle.std.specs.Prelude.{ℕ, Bool, true, false, List, [], ◌∷◌, ◌++◌, length, Option, Some, None, Result, Ok, Err, codes, decimal}
use Rattle.std.specs.List.{flat_map}
use Rattle.hex.specs.Hex.{encode_lower}
use Rattle.cil_sexpr.specs.declared.fault.ReadError.{ReadError}
use Rattle.cil_sexpr.specs.declared.fault.ReadError.TheVariants as read
use Rattle.cil_sexpr.specs.declared.fault.ReadFault.{ReadFault}
use Rattle.cil_sexpr.specs.Faults.{number_of as read_number}
use Rattle.cil_modset.specs.declared.error.BundleError.{BundleError}
use Rattle.cil_modset.specs.declared.error.BundleError.TheVariants as bundles
use Rattle.cil_modset.specs.declared.error.BundleFault.{BundleFault}
use Rattle.cil_modset.specs.declared.error.BundleFault.TheVariants as bundle
use Rattle.cil_modset.specs.declared.set.Installed.{Installed}
use Rattle.cil_modset.specs.declared.set.Installed.TheVariants as installed
use Rattle.cil_modset.specs.Faults.{number_of as bundle_number}
use Rattle.cil_faults.specs.declared.failure.Failure.{Failure}
use Rattle.cil_faults.specs.declared.failure.Failure.TheVariants as failures
use Rattle.cil_faults.specs.declared.fault.Fault.{Fault}
use Rattle.cil_faults.specs.Printed.{printed, printed_space}
use Rattle.cil_host.specs.optionals.OptionalLine.{OptionalLine}
use Rattle.cil_host.specs.optionals.WhyLine.{WhyLine}
use Rattle.cil_host.specs.declared.fault.HostError.{HostError}
use Rattle.cil_host.specs.declared.fault.HostError.TheVariants as errors
use Rattle.cil_host.specs.declared.fault.QueryFault.{QueryFault}
use Rattle.cil_host.specs.declared.fault.QueryFault.TheVariants as query
use Rattle.cil_host.specs.declared.host.Loaded.{Loaded}
use Rattle.cil_host.specs.declared.listing.ListLine.{ListLine}

abbrev pub newline : List ℕ
newline = 10 ∷ []

-- a number behind a space
abbrev pub spaced : ℕ → List ℕ
spaced n = 32 ∷ decimal n

abbrev pub ok : List ℕ
ok = codes "OK" ++ newline

abbrev pub ok_number : ℕ → List ℕ
ok_number n = codes "OK" ++ spaced n ++ newline

-- a refusal by its number
abbrev pub refused : ℕ → List ℕ
refused code = codes "ERR" ++ spaced code ++ newline

-- want of memory
abbrev pub no_memory : List ℕ
no_memory = refused 0

-- a refusal by its number, with a place
abbrev pub refused_at : ℕ → ℕ → List ℕ
refused_at code at = codes "ERR" ++ spaced code ++ spaced at ++ newline

-- a refusal with a place in a text
abbrev pub misread : ReadFault → List ℕ
misread fault = refused_at (read_number fault.code) fault.at

-- ---- by request

abbrev pub of_install : Result Installed ReadError → List ℕ
of_install (Ok installed.New) = codes "OK new" ++ newline
of_install (Ok installed.Known) = codes "OK known" ++ newline
of_install (Err (read.Fault fault)) = misread fault
of_install (Err read.NoMemory) = no_memory

abbrev pub of_bundle_fault : BundleFault → List ℕ
of_bundle_fault (bundle.BadModule index fault) =
    codes "ERR" ++ spaced 14 ++ spaced index ++ spaced (read_number fault.code) ++ spaced fault.at ++ newline
of_bundle_fault bundle.BadMagic = refused (bundle_number bundle.BadMagic)
of_bundle_fault bundle.Short = refused (bundle_number bundle.Short)
of_bundle_fault bundle.NotRising = refused (bundle_number bundle.NotRising)
of_bundle_fault bundle.Trailing = refused (bundle_number bundle.Trailing)

abbrev pub of_import : Result ℕ BundleError → List ℕ
of_import (Ok added) = ok_number added
of_import (Err (bundles.Fault fault)) = of_bundle_fault fault
of_import (Err bundles.NoMemory) = no_memory

-- how many bytes there are, and the bytes
abbrev pub of_export : List ℕ → List ℕ
of_export bytes = ok_number (length bytes) ++ bytes

abbrev pub of_line : ListLine → List ℕ
of_line line = encode_lower line.digest ++ spaced line.length ++ newline

abbrev pub of_list : List ListLine → List ℕ
of_list lines = ok_number (length lines) ++ flat_map of_line lines

-- an optional: the number of its module, its place there, its namespace and its label
abbrev pub of_optional : ℕ → ℕ → List ℕ → List ℕ → List ℕ
of_optional number at space label = decimal number ++ spaced at ++ (32 ∷ printed_space space) ++ (32 ∷ label)

-- whether an optional is in force
abbrev pub of_standing : Bool → List ℕ
of_standing true = codes " in" ++ newline
of_standing false = codes " out" ++ newline

abbrev pub of_optional_line : OptionalLine → List ℕ
of_optional_line line = of_optional line.«module» line.at line.space line.label ++ of_standing line.enabled

abbrev pub of_optionals : List OptionalLine → List ℕ
of_optionals lines = ok_number (length lines) ++ flat_map of_optional_line lines

-- why an optional is left out: a word names nothing, or the optional round it is left out
abbrev pub of_reason : Option (List ℕ) → List ℕ
of_reason None = codes " parent" ++ newline
of_reason (Some word) = codes " missing" ++ (32 ∷ word) ++ newline

abbrev pub of_why_line : WhyLine → List ℕ
of_why_line line = of_optional line.«module» line.at line.space line.label ++ of_reason line.missing

abbrev pub of_why : List WhyLine → List ℕ
of_why lines = ok_number (length lines) ++ flat_map of_why_line lines

abbrev pub of_faults : List Fault → List ℕ
of_faults faults = codes "FAULTS" ++ spaced (length faults) ++ newline ++ printed faults

-- how many bytes the tables have in decimal, and their SHA-256 digest in lower-case hexadecimal
abbrev pub of_loaded : Loaded → List ℕ
of_loaded loaded = codes "OK" ++ spaced loaded.length ++ (32 ∷ encode_lower loaded.digest) ++ newline

abbrev pub of_load : Result Loaded Failure → List ℕ
of_load (Ok loaded) = of_loaded loaded
of_load (Err (failures.Faults faults)) = of_faults faults
of_load (Err failures.NoMemory) = no_memory

-- the names behind the first, each behind a comma
abbrev pub listed : List (List ℕ) → List ℕ
listed = flat_map (λ name. 44 ∷ name)

-- names with commas between; a hyphen where there is none
abbrev pub joined : List (List ℕ) → List ℕ
joined [] = codes "-"
joined (name ∷ names) = name ++ listed names

abbrev pub of_decision : List (List ℕ) → List (List ℕ) → List (List ℕ) → List ℕ
of_decision allowed auditallow auditdeny = codes "OK " ++ joined allowed ++ codes " " ++ joined auditallow ++ codes " " ++ joined auditdeny ++ newline

-- whether a permission is allowed
abbrev pub of_check : Bool → List ℕ
of_check true = codes "OK yes" ++ newline
of_check false = codes "OK no" ++ newline

abbrev pub of_query_fault : QueryFault → List ℕ
of_query_fault query.NoPolicy = refused 71
of_query_fault query.BadSource = refused_at 72 1
of_query_fault query.BadTarget = refused_at 72 2
of_query_fault query.NoClass = refused 73
of_query_fault query.NoPermission = refused 74
of_query_fault query.NoBoolean = refused 75

-- whether a boolean is set
abbrev pub of_set : Result (Unit {0}) QueryFault → List ℕ
of_set (Ok u) = ok
of_set (Err fault) = of_query_fault fault

abbrev pub of_host_error : HostError → List ℕ
of_host_error (errors.Query fault) = of_query_fault fault
of_host_error errors.NoMemory = no_memory
