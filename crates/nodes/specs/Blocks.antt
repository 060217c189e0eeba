-- The block of a node: which bytes stand for it.
use Rattle.std.specs.Prelude.{ℕ, ◌-◌, cond, List, [], ◌++◌, length, ◌==◌}
use Rattle.std.specs.List.{between}
use Rattle.messages.specs.declared.entry.Entry.{Entry}
use Rattle.messages.specs.declared.message.Message.{Message}
use Rattle.rows.specs.Coding.{number}
use Rattle.rows.specs.Entries.{record_coding, message_entry_coding}
use Rattle.rows.specs.Tables.{table_of, values_of}
use Rattle.rules.specs.declared.header.Header.{Header}
use Rattle.rules.specs.declared.place.Place.{Place}
use Rattle.rules.specs.Headers.{header_coding}
use Rattle.tree.specs.Nodes.{Node}

-- a leaf's records from byte 32; an inner node's pivots from byte 32, child numbers from byte 60 and messages from byte 92
abbrev pub tables_of : Node → List ℕ
tables_of x =
    cond (x.frame.level == 0) (table_of record_coding 4064 x.records)
    (table_of (number 4) 28 x.frame.pivots ++ (table_of (number 4) 32 x.frame.children ++ table_of message_entry_coding 4004 x.messages))

-- how many records a leaf has, or messages an inner node
abbrev pub count_of : Node → ℕ
count_of x = cond (x.frame.level == 0) (length x.records) (length x.messages)

-- the header of a node below the root: no mark, and zeros from byte 8 on
abbrev pub header_below : ℕ → Node → Header
header_below kind x = record {
  level = x.frame.level;
  mark = 0;
  count = count_of x;
  children = length x.frame.children;
  kind = kind;
  unused = 0;
  next_free = 0;
  gap = 0;
  updates = 0;
  tree_writes = 0;
}

-- the block of a node below the root
unfoldable pub node_block : ℕ → Node → List ℕ
node_block kind x = header_coding.encode (header_below kind x) ++ tables_of x

-- what a block's header says
unfoldable pub header_of : List ℕ → Header
header_of bs = header_coding.decode bs

-- what the tables of an inner node say, and those of a leaf
abbrev pub pivots_of : Header → List ℕ → List ℕ
pivots_of h bs = values_of (number 4) (h.children - 1) (between 32 60 bs)

abbrev pub children_of : Header → List ℕ → List ℕ
children_of h bs = values_of (number 4) h.children (between 60 92 bs)

abbrev pub messages_of : Header → List ℕ → List (Entry Message)
messages_of h bs = values_of message_entry_coding h.count (between 92 4096 bs)

abbrev pub records_of : Header → List ℕ → List (Entry ℕ)
records_of h bs = values_of record_coding h.count (between 32 4096 bs)

-- the node that a block says at a place
abbrev pub node_of : Place → Header → List ℕ → Node
node_of p h bs = record {
  frame = record {
    level = p.level;
    low = p.span.low;
    high = p.span.high;
    pivots = cond (p.level == 0) [] (pivots_of h bs);
    children = cond (p.level == 0) [] (children_of h bs);
  };
  messages = cond (p.level == 0) [] (messages_of h bs);
  records = cond (p.level == 0) (records_of h bs) [];
}
