-- The exit status of a program that plays a script.
use Rattle.std.specs.Prelude.{ℕ, Result, Ok, Err, ⊤}
use Rattle.comm_script.specs.declared.fault.RunFault.{RunFault}
use Rattle.comm_script.specs.declared.fault.RunFault.TheVariants.{Read, Write, Memory, BadLimits, NoReader}

-- 1: the script couldn't be read, or the answers couldn't be written; 2: there was no memory, or no version to read
abbrev pub status_of : Result ⊤ RunFault → ℕ
status_of (Ok done) = 0
status_of (Err Read) = 1
status_of (Err Write) = 1
status_of (Err Memory) = 2
status_of (Err BadLimits) = 2
status_of (Err NoReader) = 2
