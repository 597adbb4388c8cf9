-- The suboptions of an option as a list in an array: what the code's list says, and the list of an option.
use Rattle.std.specs.Prelude.{ℕ, zero, suc, ◌-◌, ◌%◌, List, [], ◌∷◌, ◌++◌, map, Bool, true, false, cond, ◌&&◌, ltb, eqb, length, get_or, replicate}
use Rattle.eno.specs.Walk.{Reading, readable, faulty}
use Rattle.eno.specs.Suboption.{Sent, Suboption, global, tep, suboptions}
use Rattle.suboption_list.specs.declared.SuboptionItem.{SuboptionItem}
use Rattle.suboption_list.specs.declared.SuboptionList.{SuboptionList}

-- an option of 40 bytes has 38 bytes for suboptions
abbrev pub most_items : ℕ
most_items = 38

-- a suboption as it stands in the array
abbrev pub item_of : Suboption → SuboptionItem
item_of (global b) = record { is_tep = false; counted = false; byte = b; start = 0; len = 0 }
item_of (tep x) = record { is_tep = true; counted = x.counted; byte = x.byte; start = x.start; len = x.len }

-- the global byte 0, which stands behind the last suboption
abbrev pub filler : SuboptionItem
filler = record { is_tep = false; counted = false; byte = 0; start = 0; len = 0 }

-- what stands in the array, read as a TEP, and as a suboption
abbrev pub sent_of : SuboptionItem → Sent
sent_of x = record { counted = x.counted; byte = x.byte; start = x.start; len = x.len }

abbrev pub suboption_of : SuboptionItem → Suboption
suboption_of x = cond x.is_tep (tep (sent_of x)) (global x.byte)

-- it is the TEP t
unfoldable pub is_named : SuboptionItem → ℕ → Bool
is_named x t = x.is_tep && eqb (x.byte % 128) t

-- n suboptions from place i on
unfoldable pub items_from : List SuboptionItem → ℕ → ℕ → List Suboption
items_from items zero i = []
items_from items (suc n) i = suboption_of (get_or items i filler) ∷ items_from items n (suc i)

-- a count above 38 reads as 38
unfoldable pub count_of : ℕ → ℕ
count_of n = cond (ltb most_items n) most_items n

-- the suboptions that a list has
unfoldable pub items_in : SuboptionList → List Suboption
items_in l = items_from l.items (count_of l.count) 0

-- suboptions in an array
unfoldable pub array_of : List Suboption → List SuboptionItem
array_of l = map item_of l ++ replicate (most_items - length l) filler

abbrev pub list_as : ℕ → List SuboptionItem → SuboptionList
list_as n items = record { ill_formed = false; count = n; items = items }

unfoldable pub list_with : List Suboption → SuboptionList
list_with l = list_as (length l) (array_of l)

abbrev pub broken_list : SuboptionList
broken_list = record { ill_formed = true; count = 0; items = replicate most_items filler }

unfoldable pub listed_of : Reading (Unit {0}) Suboption → SuboptionList
listed_of (faulty f) = broken_list
listed_of (readable l) = list_with l

-- the list of an option; more than 40 bytes are no option of an area, and told as ill-formed
unfoldable pub list_of : List ℕ → SuboptionList
list_of o = cond (ltb 40 (length o)) broken_list (listed_of (suboptions o))

-- the first of some TEPs, as it stands in the array
unfoldable pub first_item : List Sent → SuboptionItem
first_item [] = filler
first_item (x ∷ l) = item_of (tep x)

-- the last of a list, as it stands in the array
unfoldable pub last_item : SuboptionList → SuboptionItem
last_item l = cond (eqb l.count 0) filler (get_or l.items (count_of l.count - 1) filler)
