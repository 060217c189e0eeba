mod Adding
mod Paging
mod Refused
