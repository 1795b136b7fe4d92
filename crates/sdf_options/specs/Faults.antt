-- The fault of a command line, by the error of its parser.
use Rattle.clap.specs.Words.{kind_of}
use Rattle.clap.specs.declared.error.Error.{Error}
use Rattle.clap.specs.declared.error.kind.ErrorKind.{ErrorKind}
use Rattle.clap.specs.declared.error.kind.ErrorKind.TheVariants as kind
use Rattle.sdf_options.specs.declared.fault.WordFault.{WordFault}
use Rattle.sdf_options.specs.declared.fault.WordFault.TheVariants as words

abbrev pub of_kind : ErrorKind → Error → WordFault
of_kind kind.OutOfMemory e = words.OutOfMemory
of_kind k e = words.Usage e

-- the fault for an error of the command line's parser
abbrev pub of_clap : Error → WordFault
of_clap e = of_kind (kind_of e) e
