-- The kinds of words and their numbers.
use Rattle.std.specs.Prelude.{ℕ, if◌then◌else◌, None, Some, Option, ◌==◌}
use Rattle.words.specs.declared.kind.Kind.{Kind}
use Rattle.words.specs.declared.kind.Kind.TheVariants as kind

-- each kind's number
abbrev pub kind_number : Kind → ℕ
kind_number kind.Data = 0
kind_number kind.Create = 1
kind_number kind.Own = 2
kind_number kind.ById = 3
kind_number kind.Send = 5
kind_number kind.Wait = 6
kind_number kind.Delay = 7
kind_number kind.Transfer = 8
kind_number kind.Service = 9
kind_number kind.Tick = 10
kind_number kind.Look = 11
kind_number kind.Granted = 12
kind_number kind.Refused = 13

-- the kind that has a number
abbrev pub numbered_kind : ℕ → Option Kind
numbered_kind n =
    if n == kind_number kind.Data then Some kind.Data
    else if n == kind_number kind.Create then Some kind.Create
    else if n == kind_number kind.Own then Some kind.Own
    else if n == kind_number kind.ById then Some kind.ById
    else if n == kind_number kind.Send then Some kind.Send
    else if n == kind_number kind.Wait then Some kind.Wait
    else if n == kind_number kind.Delay then Some kind.Delay
    else if n == kind_number kind.Transfer then Some kind.Transfer
    else if n == kind_number kind.Service then Some kind.Service
    else if n == kind_number kind.Tick then Some kind.Tick
    else if n == kind_number kind.Look then Some kind.Look
    else if n == kind_number kind.Granted then Some kind.Granted
    else if n == kind_number kind.Refused then Some kind.Refused
    else None
