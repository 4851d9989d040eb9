-- A statement with braces round its bodies: the body of an `if`, an `else` or a loop is a block with them and without (C11 6.8.4p3, 6.8.5p5).
use Rattle.c_tree.specs.Tree.{Statement, Optional, Block, If, While, DoWhile, For, Absent, Present, NoStatements, Then}

abbrev pub braced : Statement → Statement
braced s = Block (Then s NoStatements)

abbrev pub optional_braced : Optional → Optional
optional_braced Absent = Absent
optional_braced (Present s) = Present (braced s)

abbrev pub with_braces : Statement → Statement
with_braces (If e s o) = If e (braced s) (optional_braced o)
with_braces (While e s) = While e (braced s)
with_braces (DoWhile s e) = DoWhile (braced s) e
with_braces (For i e n s) = For i e n (braced s)
with_braces s = s
