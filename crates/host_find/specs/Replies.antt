-- The finder's word in plain numbers. A number that a word does not have is 0.
use Rattle.eno.specs.Area.{Status, says_found, says_none, says_unreadable, says_refused}
use Rattle.host_reply.specs.Numbers.{of_kind, broken_numbers}
use Rattle.host_reply.specs.declared.ReplyNumbers.{ReplyNumbers}

unfoldable pub status_numbers : Status → ReplyNumbers
status_numbers says_found = of_kind 7 0
status_numbers says_none = of_kind 8 0
status_numbers (says_unreadable f) = broken_numbers f.place f.kind
status_numbers (says_refused n) = of_kind 0 n
