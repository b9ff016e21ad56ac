pub mod SumFree
