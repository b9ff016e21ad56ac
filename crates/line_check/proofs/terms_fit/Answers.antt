-- `line_check::terms_fit`: each sort of terms has its law.
use Rattle.line_check.proofs.Laws as laws
use Rattle.line_check.proofs.terms_fit.Goals as goal

pub returns-in-Nothing : goal.returns-in-Nothing
returns-in-Nothing c = search laws.no_terms

pub returns-in-RowTerms : goal.returns-in-RowTerms
returns-in-RowTerms c = search laws.row_terms

pub returns-in-Formula : goal.returns-in-Formula
returns-in-Formula c = search laws.a_formula

pub returns-in-Mapped : goal.returns-in-Mapped
returns-in-Mapped c = search laws.mapped

pub returns-in-Value : goal.returns-in-Value
returns-in-Value c = search laws.a_value

pub returns-in-Marks : goal.returns-in-Marks
returns-in-Marks c = search laws.marks
