-- What is shown of a message.
use Rattle.std.specs.Prelude.{ℕ, List, codes}
use Rattle.listing.specs.Messages.{token_text, fault_text, names_text, flaw_text, program_text}
use Rattle.listing.specs.declared.messages.TokenFault.{TokenFault}
use Rattle.listing.specs.declared.messages.ProgramFault.{ProgramFault}
use Rattle.listing.specs.declared.messages.Message.{Message}
use Rattle.listing.specs.declared.messages.Message.TheVariants.{Memory, Number, Program, Names}

abbrev pub token_fault_text : TokenFault → List ℕ
token_fault_text t = token_text t.what t.token.now

abbrev pub program_fault_text : ProgramFault → List ℕ
program_fault_text p = fault_text p.fault p.number

abbrev pub message_text : Message → List ℕ
message_text Memory = codes "out of memory"
message_text (Number place t) = flaw_text place (token_fault_text t)
message_text (Program place p) = program_text place (program_fault_text p)
message_text (Names key names count) = names_text key.now names count
